-- The laws of `type_at`, `items_at` and `whole_type`, one for each way through the code. Assumes nothing.
use mathlib.Core.Path.{◌≡◌, refl, ap, sym, ◌∙◌}
use mathlib.Core.Bool.{Bool, true, false, ◌||◌, or-false, or_assoc}
use mathlib.Core.List.{List}
use Prim.Native.Nat.{ℕ, zero, suc, ◌+◌, ◌-◌, ◌≤◌, ◌<◌}
use native.Mathlib.Omega.{arith}
use borrow.Author.Tests.{le-leb, lt-leb, ne_eqb, eqb-true, eqb-false, ltb-true, ltb-false}
use lib.Dec.{eqb, ltb}
use lib.ListN.{get_or}
use Rattle.std.specs.Prelude.{Option, Some, None}
use Rattle.format.specs.declared.types.Typed.{Typed}
use Rattle.format.specs.Types.{Ty, Items, tuple, item, inline_host, any_host, Read, got, unfit, then, items_at, leaf, type_at, whole_type}
use Rattle.format.specs.Answers.{typed_of, items_of}

-- a tuple, as the code answers it
as_tuple : (r : Read Items) → typed_of (then r (λ ts next. got (tuple ts) next)) ≡ items_of r
as_tuple (got ts next) = refl
as_tuple unfit = refl

-- a byte that no type begins with
unknown : (b at : ℕ) → 4 < b → None ≡ typed_of (leaf b at)
unfolding leaf
unknown b at l = rw (ne_eqb b 1 (λ f. omega arith), ne_eqb b 2 (λ f. omega arith), ne_eqb b 3 (λ f. omega arith))

-- a type of one byte
leaf_byte : (b at : ℕ) → 1 ≤ b → b ≤ 3 → Some (record { end = at + 1; host = eqb b 2 || eqb b 3 }) ≡ typed_of (leaf b at)
unfolding leaf
leaf_byte zero at l h = absurd (omega arith)
leaf_byte (suc zero) at l h = refl
leaf_byte (suc (suc zero)) at l h = refl
leaf_byte (suc (suc (suc zero))) at l h = refl
leaf_byte (suc (suc (suc (suc b)))) at l h = absurd (omega arith)

-- `read_type`
module _ (s : List ℕ) (end at : ℕ) where
  pub type_ended : (d : ℕ) → end ≤ at → None ≡ typed_of (type_at d s end at)
  unfolding type_at
  type_ended zero h = rw (le-leb end at h)
  type_ended (suc d) h = rw (le-leb end at h)

  -- no tuple
  pub leaf_type : (d : ℕ) → at < end → (get_or s at 0 ≡ 4 → ⊥) → typed_of (leaf (get_or s at 0) at) ≡ typed_of (type_at d s end at)
  unfolding type_at
  leaf_type zero h n = rw (lt-leb end at h)
  leaf_type (suc d) h n = rw (lt-leb end at h, ne_eqb (get_or s at 0) 4 n)

  module _ (d : ℕ) (h : at < end) where
    -- one byte, whichever it is
    pub byte_type_at : 1 ≤ get_or s at 0 → get_or s at 0 ≤ 3
        → Some (record { end = at + 1; host = eqb (get_or s at 0) 2 || eqb (get_or s at 0) 3 }) ≡ typed_of (type_at d s end at)
    byte_type_at l m = leaf_byte (get_or s at 0) at l m ∙ leaf_type d h (λ f. omega arith)

    pub type_unknown : 4 < get_or s at 0 → None ≡ typed_of (type_at d s end at)
    type_unknown l = unknown (get_or s at 0) at l ∙ leaf_type d h (λ f. omega arith)

module _ (s : List ℕ) (end at : ℕ) (h : at < end) (e : get_or s at 0 ≡ 4) where
  pub type_deep : (d : ℕ) → d ≡ 0 → None ≡ typed_of (type_at d s end at)
  unfolding type_at leaf
  type_deep zero z = rw (lt-leb end at h, e)
  type_deep (suc d) z = absurd (omega arith)

  pub type_cut : (d : ℕ) → 1 ≤ d → end ≤ at + 1 → None ≡ typed_of (type_at d s end at)
  unfolding type_at
  type_cut zero n l = absurd (omega arith)
  type_cut (suc d) n l = rw (lt-leb end at h, e, le-leb end (at + 1) l)

  pub type_tuple : (d : ℕ) → 1 ≤ d → at + 1 < end
      → items_of (items_at (λ a. type_at (d - 1) s end a) (get_or s (at + 1) 0) (at + 2)) ≡ typed_of (type_at d s end at)
  unfolding type_at
  type_tuple zero n l = absurd (omega arith)
  type_tuple (suc d) n l =
      let q : suc d - 1 ≡ d = omega arith in
      rw (lt-leb end at h, e, lt-leb end (at + 1) l, q) (sym (as_tuple (items_at (λ a. type_at d s end a) (get_or s (at + 1) 0) (at + 2))))

-- the code's answer of items after others, of which one was accepted or none
abbrev pub items_after : Bool → Read Items → Option Typed
items_after host (got ts next) = Some (record { end = next; host = host || any_host ts })
items_after host unfit = None

-- the loop of `read_items`: after an item, and its two ends
module _ (read : ℕ → Read Ty) (n k : ℕ) where
  with_item : (host : Bool) (t : Ty) (r : Read Items) → items_after host (then r (λ ts end. got (item t ts) end)) ≡ items_after (host || inline_host t) r
  with_item host t (got ts end) = ap (λ (b : Bool). Some (record { end = end; host = b })) (sym (or_assoc host (inline_host t) (any_host ts)))
  with_item host t unfit = refl

  pub items_more : (at : ℕ) (host : Bool) (x : Typed) (w : Option Typed) → k < n → Some x ≡ typed_of (read at)
      → items_after host (items_at read (n - k) at) ≡ w → items_after (host || x.host) (items_at read (n - (k + 1)) x.end) ≡ w
  unfolding items_at
  items_more at host x w h e i =
      let q : n - k ≡ suc (n - (k + 1)) = omega arith in
      sym (go (read at) e) ∙ (rw q at i)
    where
      go : (r : Read Ty) → Some x ≡ typed_of r
          → items_after host (then r (λ t next. then (items_at read (n - (k + 1)) next) (λ ts end. got (item t ts) end)))
          ≡ items_after (host || x.host) (items_at read (n - (k + 1)) x.end)
      go (got t y) e =
          let p : x.end ≡ y = cc in
          let o : x.host ≡ inline_host t = cc in
          rw (p, o) (with_item host t (items_at read (n - (k + 1)) y))
      go unfit e = cc

  pub items_stop : (at : ℕ) (host : Bool) (w : Option Typed) → k < n → None ≡ typed_of (read at)
      → items_after host (items_at read (n - k) at) ≡ w → None ≡ w
  unfolding items_at
  items_stop at host w h e i =
      let q : n - k ≡ suc (n - (k + 1)) = omega arith in
      go (read at) e ∙ (rw q at i)
    where
      go : (r : Read Ty) → None ≡ typed_of r
          → None ≡ items_after host (then r (λ t next. then (items_at read (n - (k + 1)) next) (λ ts end. got (item t ts) end)))
      go (got t y) e = cc
      go unfit e = refl

  pub items_end : (at : ℕ) (host : Bool) (w : Option Typed) → n ≤ k → items_after host (items_at read (n - k) at) ≡ w
      → Some (record { end = at; host = host }) ≡ w
  unfolding items_at
  items_end at host w h i =
      let q : n - k ≡ 0 = omega arith in
      ap (λ (b : Bool). Some (record { end = at; host = b })) (sym (or-false host)) ∙ (rw q at i)

-- `whole_type`
module _ (s : List ℕ) (end at : ℕ) where
  pub whole_absent : at < end → get_or s at 0 ≡ 0 → Some (record { end = at + 1; host = false }) ≡ typed_of (whole_type s end at)
  unfolding whole_type
  whole_absent h e = rw (lt-leb end at h, e)

  pub whole_deep : (at < end → get_or s at 0 ≡ 0 → ⊥) → typed_of (type_at 16 s end at) ≡ typed_of (whole_type s end at)
  unfolding whole_type
  whole_deep n = go (ltb at end) refl
    where
      go : (b : Bool) → ltb at end ≡ b → typed_of (type_at 16 s end at) ≡ typed_of (whole_type s end at)
      go true b = let h = ltb-true at end b in rw (lt-leb end at h, ne_eqb (get_or s at 0) 0 (n h))
      go false b = let h = ltb-false at end b in rw (le-leb end at h) (sym (type_ended s end at 16 h))

-- a whole type of one byte, whichever it is
pub byte_type : (s : List ℕ) (end at : ℕ) → at < end → get_or s at 0 ≤ 3
    → Some (record { end = at + 1; host = eqb (get_or s at 0) 2 || eqb (get_or s at 0) 3 }) ≡ typed_of (whole_type s end at)
byte_type s end at h l = go (eqb (get_or s at 0) 0) refl
  where
    go : (a : Bool) → eqb (get_or s at 0) 0 ≡ a
        → Some (record { end = at + 1; host = eqb (get_or s at 0) 2 || eqb (get_or s at 0) 3 }) ≡ typed_of (whole_type s end at)
    go true a =
        let z = eqb-true (get_or s at 0) 0 a in
        ap (λ (b : ℕ). Some (record { end = at + 1; host = eqb b 2 || eqb b 3 })) z ∙ whole_absent s end at h z
    go false a =
        let n = eqb-false (get_or s at 0) 0 a in
        byte_type_at s end at 16 h (omega arith) l ∙ whole_deep s end at (λ _. n)
