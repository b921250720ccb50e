-- The field patterns of the 41 kinds of instruction record, as document 01 groups them under "Bodies, as kind numbers".
use Rattle.std.specs.Prelude.{Bool, false, ◌||◌, List, [], ◌∷◌, ℕ, zero, suc, ◌+◌, min, eqb, leb}
use Rattle.operands.specs.Choice.{pick}

-- The roles of a field. D: output
abbrev pub D : ℕ
D = 1

-- S: input
abbrev pub S : ℕ
S = 2

-- S?: input, or absent
abbrev pub Sopt : ℕ
Sopt = 3

-- D?: output, or absent
abbrev pub Dopt : ℕ
Dopt = 4

-- T: target
abbrev pub T : ℕ
T = 5

-- M: module slot
abbrev pub M : ℕ
M = 6

-- L: each of the remaining slots
abbrev pub L : ℕ
L = 7

-- a pattern, and the kinds that have it
pub record Group : Type 0 where
  pub pattern : List ℕ
  pub kinds : List ℕ

abbrev pub group : List ℕ → List ℕ → Group
group p ks = record { pattern = p; kinds = ks }

-- document 01's list, line by line
unfoldable pub groups : List Group
groups =
    group (D ∷ S ∷ []) (1 ∷ 2 ∷ 8 ∷ 9 ∷ 15 ∷ 21 ∷ 22 ∷ 24 ∷ 25 ∷ 28 ∷ 29 ∷ 30 ∷ []) ∷
    group (D ∷ S ∷ Sopt ∷ []) (3 ∷ []) ∷
    group (D ∷ Sopt ∷ []) (4 ∷ []) ∷
    group (D ∷ []) (5 ∷ []) ∷
    group (D ∷ M ∷ []) (6 ∷ []) ∷
    group (M ∷ S ∷ []) (7 ∷ []) ∷
    group (D ∷ S ∷ S ∷ []) (10 ∷ 17 ∷ 32 ∷ []) ∷
    group (D ∷ Sopt ∷ Sopt ∷ []) (11 ∷ 16 ∷ []) ∷
    group (Sopt ∷ Sopt ∷ T ∷ T ∷ []) (12 ∷ []) ∷
    group (Dopt ∷ Sopt ∷ L ∷ []) (13 ∷ []) ∷
    group (D ∷ L ∷ []) (14 ∷ 18 ∷ 19 ∷ 20 ∷ 26 ∷ 27 ∷ []) ∷
    group (S ∷ S ∷ []) (23 ∷ 31 ∷ []) ∷
    group (S ∷ S ∷ S ∷ []) (33 ∷ []) ∷
    group (D ∷ S ∷ L ∷ []) (34 ∷ 37 ∷ []) ∷
    group (S ∷ S ∷ L ∷ []) (35 ∷ []) ∷
    group (Dopt ∷ S ∷ S ∷ L ∷ []) (36 ∷ []) ∷
    group (T ∷ []) (38 ∷ []) ∷
    group (S ∷ T ∷ T ∷ []) (39 ∷ []) ∷
    group (Sopt ∷ []) (40 ∷ []) ∷
    group ([]) (41 ∷ []) ∷
    []

abbrev pub among : ℕ → List ℕ → Bool
among k [] = false
among k (x ∷ xs) = eqb k x || among k xs

-- the pattern of kind k in such a list
unfoldable pub pattern_in : List Group → ℕ → List ℕ
pattern_in [] k = []
pattern_in (g ∷ gs) k = let r = pattern_in gs k in pick (among k g.kinds) g.pattern r

-- the pattern of kind k
unfoldable pub pattern_of : ℕ → List ℕ
pattern_of k = pattern_in groups k

-- the role of field j in a pattern: 0 past its end, and L from L on
unfoldable pub role_in : List ℕ → ℕ → ℕ
role_in [] j = 0
role_in (c ∷ cs) zero = c
role_in (c ∷ cs) (suc j) = let r = role_in cs j in pick (eqb c L) L r

-- the role of field j of a record of kind k. No pattern has more than four roles, so field 3's goes on: L, or none
unfoldable pub role_at : ℕ → ℕ → ℕ
role_at k j = role_in (pattern_of k) (min j 3)

-- one for a single field, nothing for L and for no field
abbrev pub single_of : ℕ → ℕ
single_of r = pick (eqb r 0) 0 (pick (eqb r L) 0 1)

-- how many single fields a record of kind k has
unfoldable pub fixed_at : ℕ → ℕ
fixed_at k = single_of (role_at k 0) + single_of (role_at k 1) + single_of (role_at k 2) + single_of (role_at k 3)

-- whether L follows them
unfoldable pub list_at : ℕ → Bool
list_at k = eqb (role_at k 3) L

-- whether a record of kind k may have so many fields: its single fields, and any number more if L follows them
unfoldable pub fits : ℕ → ℕ → Bool
fits k fields = pick (list_at k) (leb (fixed_at k) fields) (eqb fields (fixed_at k))
