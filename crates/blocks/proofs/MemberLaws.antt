-- What is in a block's two rows: what its instructions use and what they define. Assumes nothing.
use mathlib.Core.Path.{◌≡◌, refl, sym, ap, ap₂, ◌∙◌}
use mathlib.Core.Bool.{Bool, true, false, not, ◌&&◌, ◌||◌, and-false, or-false, or-true, or_comm}
use mathlib.Core.List.{List, [], ◌∷◌}
use Prim.Native.Nat.{ℕ, ◌*◌, ◌/◌, ◌<◌}
use native.Mathlib.Decide.{ℕ_discrete}
use native.Mathlib.Omega.{arith}
use borrow.Author.Tests.{eq-eqb, ne_eqb}
use lib.Dec.{eqb}
use lib.ListN.{length, replicate, length-replicate}
use Rattle.bitset.specs.Sets.{member}
use Rattle.bitset.specs.Operations.{inserted}
use Rattle.bitset.proofs.SetLaws.{length_inserted, member_inserted, member-zero}
use Rattle.dataflow.specs.Lists.{pick, elem}
use Rattle.dataflow.specs.BasicBlocks.{uses, defines}
use Rattle.dataflow.specs.Code.{Instruction, instruction_at, program, body}
use Rattle.bitset.specs.Below.{AllBelow}
use Rattle.instructions.specs.Sets.{inserted_all}
use Rattle.operands.specs.Patterns.{among}
use Rattle.instructions.proofs.SetSteps.{length-all}
use Rattle.instructions.proofs.SetMembers as sets
use Rattle.memory.specs.Cells.{Mem, cell}
use Rattle.memory.specs.Names.{uses_row, defines_row}
use Rattle.blocks.specs.Rows.{used_in, Transfer, transfer_one, transfer_all, rows_at}
use Rattle.blocks.specs.Blocks.{BlockRows}

-- ---- the outputs put in

-- in a list by either test
pub among-elem : (k : ℕ) (l : List ℕ) → among k l ≡ elem k l
among-elem k [] = refl
among-elem k (x ∷ l) = ap (λ (t : Bool). eqb k x || t) (among-elem k l)

pub member-all : (l ws : List ℕ) (w k : ℕ) → length ws ≡ w → AllBelow (64 * w) l → member (inserted_all l ws) k ≡ (member ws k || elem k l)
member-all l ws w k q a =
    sets.member-all l ws k (rw q a) ∙ or_comm (among k l) (member ws k) ∙ ap (λ (t : Bool). member ws k || t) (among-elem k l)

-- ---- the inputs that are not defined put in

-- one of them
abbrev one : List ℕ → ℕ → List ℕ → List ℕ
one d x u = pick (member d x) u (inserted u x)

length-one : (d : List ℕ) (x : ℕ) (u : List ℕ) → length (one d x u) ≡ length u
length-one d x u = go (member d x)
  where
    go : (t : Bool) → length (pick t u (inserted u x)) ≡ length u
    go true = refl
    go false = length_inserted u x

member-one : (d : List ℕ) (x : ℕ) (u : List ℕ) (k : ℕ) → x / 64 < length u
    → member (one d x u) k ≡ (member u k || (not (member d k) && eqb k x))
member-one d x u k h = go (member d x) refl (ℕ_discrete k x)
  where
    go : (t : Bool) → member d x ≡ t → Dec (k ≡ x) → member (pick t u (inserted u x)) k ≡ (member u k || (not (member d k) && eqb k x))
    go true e (yes q) = let f : member d k ≡ true = ap (member d) q ∙ e in rw f (sym (or-false (member u k)))
    go true e (no q) = rw (ne_eqb k x q, and-false (not (member d k))) (sym (or-false (member u k)))
    go false e (yes q) =
        let f : member d k ≡ false = ap (member d) q ∙ e in
        member_inserted u x h k ∙ rw (f, eq-eqb x k (sym q), eq-eqb k x q) (sym (or-true (member u k)))
    go false e (no q) =
        member_inserted u x h k
        ∙ rw (ne_eqb x k (λ w. q (sym w)), ne_eqb k x q, and-false (not (member d k))) (sym (or-false (member u k)))

-- all of them
pub length-used : (d l u : List ℕ) → length (used_in d l u) ≡ length u
unfolding used_in
length-used d [] u = refl
length-used d (x ∷ l) u = length-used d l (one d x u) ∙ length-one d x u

pub member-used : (d l u : List ℕ) (w k : ℕ) → length u ≡ w → AllBelow (64 * w) l
    → member (used_in d l u) k ≡ (member u k || (not (member d k) && elem k l))
unfolding used_in
member-used d [] u w k q a = go (member u k) (not (member d k))
  where
    go : (t s : Bool) → t ≡ (t || (s && false))
    go true s = refl
    go false true = refl
    go false false = refl
member-used d (x ∷ l) u w k q a =
    let h = a.0 in
    member-used d l (one d x u) w k (length-one d x u ∙ q) a.1
    ∙ ap (λ (t : Bool). t || (not (member d k) && elem k l)) (member-one d x u k (omega arith))
    ∙ go (member u k) (not (member d k)) (eqb k x) (elem k l)
  where
    go : (t s p e : Bool) → ((t || (s && p)) || (s && e)) ≡ (t || (s && (p || e)))
    go true s p e = refl
    go false true true e = refl
    go false true false e = refl
    go false false p e = refl

-- ---- the instructions of a list

module _ (code : List Instruction) (parameter : ℕ → Bool) (w : ℕ)
    (ins : (i : ℕ) → AllBelow (64 * w) (instruction_at code i).inputs) (outs : (i : ℕ) → AllBelow (64 * w) (instruction_at code i).outputs) where
  -- the slot k after them
  members-after : (l : List ℕ) (r : Transfer) (k : ℕ) → length r.uses ≡ w → length r.defines ≡ w
      → (member (transfer_all code l r).uses k ≡ uses (program code parameter) k (member r.defines k) (member r.uses k) l)
      × (member (transfer_all code l r).defines k ≡ defines (program code parameter) k (member r.defines k) l)
  unfolding transfer_all
  members-after [] r k p q = (refl, refl)
  members-after (i ∷ l) r k p q =
      let z = members-after l (transfer_one (instruction_at code i) r) k
      (length-used r.defines (instruction_at code i).inputs r.uses ∙ p) (length-all (instruction_at code i).outputs r.defines ∙ q) in
      let mu = member-used r.defines (instruction_at code i).inputs r.uses w k p (ins i) in
      let md = member-all (instruction_at code i).outputs r.defines w k q (outs i) in (
        z.0 ∙ ap₂ (λ (s t : Bool). uses (program code parameter) k s t l) md mu,
        z.1 ∙ ap (λ (s : Bool). defines (program code parameter) k s l) md,
      )

  -- from nothing
  members-from_none : (l : List ℕ) (r : Transfer) (k : ℕ) → r.uses ≡ replicate w 0 → r.defines ≡ replicate w 0
      → (member (transfer_all code l r).uses k ≡ uses (program code parameter) k false false l)
      × (member (transfer_all code l r).defines k ≡ defines (program code parameter) k false l)
  members-from_none l r k p q =
      let long = length-replicate {A = ℕ} w 0 in
      let z = members-after l r k (ap length p ∙ long) (ap length q ∙ long) in
      let u : member r.uses k ≡ false = ap (λ (ws : List ℕ). member ws k) p ∙ member-zero w k in
      let d : member r.defines k ≡ false = ap (λ (ws : List ℕ). member ws k) q ∙ member-zero w k in (
        z.0 ∙ ap₂ (λ (s t : Bool). uses (program code parameter) k s t l) d u,
        z.1 ∙ ap (λ (s : Bool). defines (program code parameter) k s l) d,
      )

  -- the rows of a block whose instructions were gone through from nothing
  pub rows_from_none : (m : Mem) {m' : Mem} {b : ℕ} → cell m (uses_row b) ≡ replicate w 0 → cell m (defines_row b) ≡ replicate w 0
      → rows_at m' b ≡ transfer_all code (body code b) (rows_at m b) → BlockRows code parameter m' b
  rows_from_none m {b = b} p q e = record {
    uses_are = λ k. ap (λ (r : Transfer). member r.uses k) e ∙ (members-from_none (body code b) (rows_at m b) k p q).0;
    defines_are = λ k. ap (λ (r : Transfer). member r.defines k) e ∙ (members-from_none (body code b) (rows_at m b) k p q).1;
  }
