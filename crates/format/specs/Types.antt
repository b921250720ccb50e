-- The type of a slot. Document 01: a type is 0 absent (whole type only), 1 other, 2 host, 3 reference, or 4 tuple with a count byte and so
-- many types, at most 16 tuples deep. A type is read inside its record, before `end`.
use Rattle.std.specs.Prelude.{Bool, true, false, ◌||◌, List, ℕ, zero, suc, ◌+◌, eqb, leb, get_or}
use Rattle.operands.specs.Choice.{pick}

-- a type, and the items of a tuple
mutual
  pub data Ty : Type 0 where
    absent : Ty
    other : Ty
    host : Ty
    reference : Ty
    tuple : Items → Ty
    deriving IsSet as Ty-set

  pub data Items : Type 0 where
    no_more : Items
    item : Ty → Items → Items
    deriving IsSet as Items-set

-- `inline_host` of flow.rs: a host type, a reference, or a tuple that holds such at any depth
abbrev mutual
  pub inline_host : Ty → Bool
  inline_host absent = false
  inline_host other = false
  inline_host host = true
  inline_host reference = true
  inline_host (tuple ts) = any_host ts

  pub any_host : Items → Bool
  any_host no_more = false
  any_host (item t ts) = inline_host t || any_host ts

-- what was read, and the offset after it; or that nothing that fits stands there
pub data Read (A : Type 0) : Type 0 where
  got : A → ℕ → Read A
  unfit : Read A

-- goes on after what was read
abbrev pub then : {A B : Type 0} → Read A → (A → ℕ → Read B) → Read B
then (got x next) f = f x next
then unfit f = unfit

-- so many types one after the other, each read by the function given
unfoldable pub items_at : (ℕ → Read Ty) → ℕ → ℕ → Read Items
items_at read zero at = got no_more at
items_at read (suc n) at = then (read at) (λ t next. then (items_at read n next) (λ ts end. got (item t ts) end))

-- a type that is no tuple
unfoldable pub leaf : ℕ → ℕ → Read Ty
leaf b at = pick (eqb b 1) (got other (at + 1)) (pick (eqb b 2) (got host (at + 1)) (pick (eqb b 3) (got reference (at + 1)) unfit))

-- the type at an offset, at most d tuples deep
unfoldable pub type_at : ℕ → List ℕ → ℕ → ℕ → Read Ty
type_at zero s end at = pick (leb end at) unfit (leaf (get_or s at 0) at)
type_at (suc d) s end at =
    let inner = then (items_at (λ a. type_at d s end a) (get_or s (at + 1) 0) (at + 2)) (λ ts next. got (tuple ts) next) in
    pick (leb end at) unfit
    (pick (eqb (get_or s at 0) 4) (pick (leb end (at + 1)) unfit inner) (leaf (get_or s at 0) at))

-- a whole type: absent, or a type at most 16 tuples deep
unfoldable pub whole_type : List ℕ → ℕ → ℕ → Read Ty
whole_type s end at =
    let deep = type_at 16 s end at in
    pick (leb end at) unfit (pick (eqb (get_or s at 0) 0) (got absent (at + 1)) deep)

-- whether what was read ends at an offset
abbrev pub ends_with : {A : Type 0} → ℕ → Read A → Bool
ends_with end (got x next) = eqb next end
ends_with end unfit = false
