-- The blocks of checked code are basic blocks of its program; an instruction is reached exactly if its block is.
use mathlib.Core.Path.{◌≡◌, refl, sym, ◌∙◌, ap, subst}
use mathlib.Core.Bool.{Bool, true, false, true≢false, or-true}
use mathlib.Core.List.Memᴰ
use mathlib.Core.List.{List, [], ◌∷◌, ◌++◌, Memᴰ}
use mathlib.Core.List.{nil≢cons, head-eq_of_cons-eq}
use mathlib.Core.Logic.{◌⊎◌, inl, inr, ◌↔◌}
use Prim.Native.Nat.{ℕ, zero, suc, ◌+◌, ◌≤◌, ◌<◌}
use native.Mathlib.Omega.{arith}
use native.Mathlib.Decide.{ℕ_discrete}
use native.Mathlib.Nat.{add-suc, suc-add, zero-add, le_refl}
use lib.ListN.{length, get_or, get_or-map, get_or-eq_default}
use lib.Dec.{eqb}
use Rattle.dataflow.specs.Paths.{Path, stop, step, Reached}
use Rattle.dataflow.specs.Analyses.{initialization}
use Rattle.dataflow.specs.Lists.{pick, elem}
use Rattle.dataflow.specs.Blocks.{block_program}
use Rattle.dataflow.specs.BasicBlocks.{BasicBlocks, Place}
use Rattle.dataflow.specs.Code.{Instruction, outside, instruction_at, successors, program, leader, prepend, head_or, last_or, index_of}
use Rattle.dataflow.specs.Code.{blocks_from, blocks, leaders, body, block_successors, block_graph}
use Rattle.dataflow.specs.Checked.{Checked}
use Rattle.dataflow.proofs.Bools.{or_no_left, eqb_is, eqb-self}
use Rattle.dataflow.proofs.Lists.{All, all_get_d, mem-get_or, mem-elem, some_to}
use Rattle.dataflow.proofs.BlockPaths.{entry_place, reached_point}
use Rattle.dataflow.proofs.Leaders.{leaders_count, leader_starts, block_place_unique}

module _ (code : List Instruction) where
  -- inside a block control goes to the next number and nowhere else
  abbrev Linked : List ℕ → Type 0
  Linked [] = Unit {0}
  Linked (i ∷ []) = Unit {0}
  Linked (i ∷ j ∷ l) = (successors code i ≡ j ∷ []) × Linked (j ∷ l)

  linked-at : (u : List ℕ) (i j : ℕ) (v : List ℕ) → Linked (u ++ (i ∷ j ∷ v)) → successors code i ≡ j ∷ []
  linked-at [] i j v h = h.0
  linked-at (x ∷ []) i j v h = h.1.0
  linked-at (x ∷ y ∷ u) i j v h = linked-at (y ∷ u) i j v h.1

  -- what holds of each block, end being the number behind the last instruction
  pub record Cut (end : ℕ) (c : List ℕ) : Type 0 where
    pub head : ℕ
    pub tail : List ℕ
    pub is : c ≡ head ∷ tail
    pub linked : Linked c
    pub last : (leader code (suc (last_or 0 c)) ≡ true) ⊎ (suc (last_or 0 c) ≡ end)
    pub last_below : last_or 0 c < end

  -- not a leader: the instruction before it does not end a block
  not-leader : (k : ℕ) → leader code (suc k) ≡ false → (instruction_at code k).ends ≡ false
  not-leader k e = or_no_left (instruction_at code k).ends _ e

  cut-single : (k m : ℕ) → (leader code (suc k) ≡ true) ⊎ (m ≡ 0) → Cut (k + suc m) (k ∷ [])
  cut-single k m h = record { head = k; tail = []; is = refl; linked = tt; last = go h; last_below = omega arith }
    where
      go : (leader code (suc k) ≡ true) ⊎ (m ≡ 0) → (leader code (suc k) ≡ true) ⊎ (suc k ≡ k + suc m)
      go (inl e) = inl e
      go (inr e) = inr (omega arith)

  cut-cons : (k end : ℕ) (c : List ℕ) → leader code (suc k) ≡ false → head_or 0 c ≡ suc k → Cut end c → Cut end (k ∷ c)
  cut-cons k end [] e eh h = absurd (nil≢cons h.is)
  cut-cons k end (j ∷ l) e eh h = record {
    head = k;
    tail = j ∷ l;
    is = refl;
    linked = (rw (not-leader k e, eh) refl, h.linked);
    last = h.last;
    last_below = h.last_below;
  }

  pub from_head : (k m : ℕ) → (x : List ℕ) × (y : List (List ℕ)) × (blocks_from code k (suc m) ≡ (k ∷ x) ∷ y)
  from_head k m = go (leader code (suc k)) (blocks_from code (suc k) m)
    where
      go : (b : Bool) (r : List (List ℕ)) → (x : List ℕ) × (y : List (List ℕ)) × (prepend b k r ≡ (k ∷ x) ∷ y)
      go true r = ([], r, refl)
      go false [] = ([], [], refl)
      go false (c ∷ r) = (c, r, refl)

  from_cut : (k m : ℕ) → All (Cut (k + m)) (blocks_from code k m)
  from_cut k zero = tt
  from_cut k (suc m) = go (leader code (suc k)) refl (blocks_from code (suc k) m) (first m)
      (rw (← add-suc k m) at (rw (suc-add k m) at (from_cut (suc k) m)))
    where
      -- what is left is nothing, or begins with the next instruction
      first : (m : ℕ) → ((m ≡ 0) × (blocks_from code (suc k) m ≡ [])) ⊎
          ((x : List ℕ) × (y : List (List ℕ)) × (blocks_from code (suc k) m ≡ (suc k ∷ x) ∷ y))
      first zero = inl (refl, refl)
      first (suc m) = inr (from_head (suc k) m)

      go : (b : Bool) → leader code (suc k) ≡ b → (r : List (List ℕ))
          → ((m ≡ 0) × (r ≡ [])) ⊎ ((x : List ℕ) × (y : List (List ℕ)) × (r ≡ (suc k ∷ x) ∷ y))
          → All (Cut (k + suc m)) r → All (Cut (k + suc m)) (prepend b k r)
      go true e r f h = (cut-single k m (inl e), h)
      go false e [] (inl z) h = (cut-single k m (inr z.0), tt)
      go false e [] (inr z) h = absurd (nil≢cons z.2)
      go false e (c ∷ r) (inl z) h = absurd (nil≢cons (sym z.1))
      go false e (c ∷ r) (inr z) h = (cut-cons k (k + suc m) c e (ap (head_or 0) (head-eq_of_cons-eq z.2)) h.0, h.1)

  -- the place of a number in a list that has it
  index-of : (t : ℕ) (l : List ℕ) (d : ℕ) → Memᴰ t l → get_or l (index_of t l) d ≡ t
  index-of t [] d m = absurd (Memᴰ.not-nil m)
  index-of t (x ∷ l) d m = go (eqb t x) refl (Memᴰ.cases_cons m) (λ m'. index-of t l d m')
    where
      go : (b : Bool) → eqb t x ≡ b → (t ≡ x) ⊎ Memᴰ t l → (Memᴰ t l → get_or l (index_of t l) d ≡ t)
          → get_or (x ∷ l) (pick b 0 (suc (index_of t l))) d ≡ t
      go true e h below = sym (eqb_is t x e)
      go false e (inr q) below = below q
      go false e (inl q) below = absurd (true≢false (sym (rw q (eqb-self x)) ∙ e))

  index_below : (t : ℕ) (l : List ℕ) → Memᴰ t l → index_of t l < length l
  index_below t [] m = absurd (Memᴰ.not-nil m)
  index_below t (x ∷ l) m = go (eqb t x) refl (Memᴰ.cases_cons m) (λ m'. index_below t l m')
    where
      go : (b : Bool) → eqb t x ≡ b → (t ≡ x) ⊎ Memᴰ t l → (Memᴰ t l → index_of t l < length l)
          → pick b 0 (suc (index_of t l)) < suc (length l)
      go true e h below = omega arith
      go false e (inr q) below = omega (arith, below q)
      go false e (inl q) below = absurd (true≢false (sym (rw q (eqb-self x)) ∙ e))

  last_snoc : (d : ℕ) (u : List ℕ) (i : ℕ) → last_or d (u ++ (i ∷ [])) ≡ i
  last_snoc d [] i = refl
  last_snoc d (x ∷ u) i = last_snoc x u i

  module _ (parameter : ℕ → Bool) (slots : ℕ) (ch : Checked code parameter slots) where
    which : (b : ℕ) → Cut (length code) (body code b) ⊎ (body code b ≡ length code ∷ [])
    which b = all_get_d (Cut (length code)) (blocks code) b (length code ∷ []) (rw (zero-add (length code)) at (from_cut 0 (length code)))

    -- a target of the last instruction of a block begins a block
    target : (i : ℕ) → Cut (length code) (body code i) ⊎ (body code i ≡ length code ∷ []) → (l : ℕ) → last_or 0 (body code i) ≡ l → (t : ℕ)
        → Memᴰ t (successors code l) → Memᴰ t (leaders code)
    target b (inr e) l q t m = absurd (Memᴰ.not-nil (rw nothing at m))
      where
        nothing : successors code l ≡ []
        nothing = rw (← q, e, get_or-eq_default code outside (le_refl (length code))) refl
    target b (inl f) l q t m = go (instruction_at code l).ends refl m
      where
        l_below : l < length code
        l_below = rw q at f.last_below

        is_target : (t : ℕ) → Memᴰ t (instruction_at code l).targets → leader code t ≡ true
        is_target zero m = refl
        is_target (suc t) m = rw (some_to (λ (k : Instruction). elem (suc t) k.targets) code (instruction_at code l)
            (mem-get_or code l outside l_below) (mem-elem (suc t) (instruction_at code l).targets m)) (or-true (instruction_at code t).ends)

        not_last : suc l ≡ length code → (instruction_at code l).ends ≡ false → ⊥
        not_last e₁ e₂ = true≢false (sym (ch.closed_end l e₁) ∙ e₂)

        after : (instruction_at code l).ends ≡ false → (leader code (suc l) ≡ true) ⊎ (suc l ≡ length code) → Memᴰ (suc l) (leaders code)
        after e (inr z) = absurd (not_last z e)
        after e (inl z) = leader_starts code (suc l) (near (ℕ_discrete (suc l) (length code))) z
          where
            near : Dec (suc l ≡ length code) → suc l < length code
            near (yes w) = absurd (not_last w e)
            near (no w) = omega (arith, l_below)

        go : (b : Bool) → (instruction_at code l).ends ≡ b → Memᴰ t (pick b (instruction_at code l).targets (suc l ∷ []))
            → Memᴰ t (leaders code)
        go true e m = leader_starts code t (ch.targets_below l t m) (is_target t m)
        go false e m = Memᴰ.cast (Memᴰ.eq_of_singleton m) (after e (rw q at f.last))

    -- whichever block it is
    pub last_target : (b l : ℕ) → last_or 0 (body code b) ≡ l → (t : ℕ) → Memᴰ t (successors code l) → Memᴰ t (leaders code)
    last_target b = target b (which b)

    at_end_lem : (b : ℕ) (u : List ℕ) (i : ℕ) → body code b ≡ u ++ (i ∷ []) → last_or 0 (body code b) ≡ i
    at_end_lem b u i e = ap (last_or 0) e ∙ last_snoc 0 u i

    pub successors_below : (b c : ℕ) → Memᴰ c (block_successors code b) → c < length (blocks code)
    successors_below b c m = go (Memᴰ.of_map _ (successors code (last_or 0 (body code b))) m)
      where
        go : (x : ℕ) × Memᴰ x (successors code (last_or 0 (body code b))) × (index_of x (leaders code) ≡ c) → c < length (blocks code)
        go z = omega (arith, z.2, index_below z.0 (leaders code) (last_target b _ refl z.0 z.1), leaders_count code)

    pub blocks_some : 0 < length (blocks code)
    blocks_some = go (length code) refl
      where
        go : (n : ℕ) → length code ≡ n → 0 < length (blocks code)
        go zero e = absurd (omega (arith, ch.some_code))
        go (suc m) e = rw (e, (from_head 0 m).2) (omega arith)

    -- past the last block there is nothing
    pub successors_past : (b : ℕ) → length (blocks code) ≤ b → block_successors code b ≡ []
    successors_past b le = rw (get_or-eq_default (blocks code) (length code ∷ []) le, get_or-eq_default code outside (le_refl (length code)))
        refl

    pub basic_blocks : BasicBlocks (program code parameter) (block_graph code)
    basic_blocks = record {
      starts = λ b. starts' b (which b);
      entry_first = entry' (length code) refl;
      inside_to = λ b u i j v e. rw (one b u i j v e) (Memᴰ.head refl);
      inside_of = λ b u i j v e k m. Memᴰ.eq_of_singleton (rw (one b u i j v e) at m);
      leaves_to = λ b u i e c m. leaves b u i e c m;
      leaves_of = λ b u i e k m. (index_of k (leaders code), rw (at_end_lem b u i e) (Memᴰ.map _ m), sym (to_first b u i e k m));
    }
      where
        lead : (c : List ℕ) (h : ℕ) (t : List ℕ) → c ≡ h ∷ t → c ≡ head_or 0 c ∷ t
        lead c h t e = rw e refl

        starts' : (b : ℕ) → Cut (length code) (body code b) ⊎ (body code b ≡ length code ∷ []) → (t : List ℕ)
            × (body code b ≡ head_or 0 (body code b) ∷ t)
        starts' b (inl f) = (f.tail, lead (body code b) f.head f.tail f.is)
        starts' b (inr e) = ([], lead (body code b) (length code) [] e)

        linked' : (b : ℕ) → Cut (length code) (body code b) ⊎ (body code b ≡ length code ∷ []) → Linked (body code b)
        linked' b (inl f) = f.linked
        linked' b (inr e) = rw e tt

        one : (b : ℕ) (u : List ℕ) (i j : ℕ) (v : List ℕ) → body code b ≡ u ++ (i ∷ j ∷ v) → successors code i ≡ j ∷ []
        one b u i j v e = linked-at u i j v (rw e at (linked' b (which b)))

        entry' : (n : ℕ) → length code ≡ n → head_or 0 (body code 0) ≡ 0
        entry' zero e = absurd (omega (arith, ch.some_code))
        entry' (suc m) e = let z = from_head 0 m in
            ap (λ (r : List (List ℕ)). head_or 0 (get_or r 0 (length code ∷ []))) (ap (blocks_from code 0) e ∙ z.2)

        to_first : (b : ℕ) (u : List ℕ) (i : ℕ) → body code b ≡ u ++ (i ∷ []) → (k : ℕ) → Memᴰ k (successors code i)
            → head_or 0 (body code (index_of k (leaders code))) ≡ k
        to_first b u i e k m = sym (get_or-map (head_or 0) (blocks code) (index_of k (leaders code)) (length code ∷ []))
            ∙ index-of k (leaders code) _ (last_target b i (at_end_lem b u i e) k m)

        leaves : (b : ℕ) (u : List ℕ) (i : ℕ) → body code b ≡ u ++ (i ∷ []) → (c : ℕ) → Memᴰ c (block_successors code b)
            → Memᴰ (head_or 0 (body code c)) (successors code i)
        leaves b u i e c m = go (Memᴰ.of_map _ (successors code i) (rw (at_end_lem b u i e) at m))
          where
            go : (x : ℕ) × Memᴰ x (successors code i) × (index_of x (leaders code) ≡ c) → Memᴰ (head_or 0 (body code c)) (successors code i)
            go z = Memᴰ.cast (ap (λ (y : ℕ). head_or 0 (body code y)) (sym z.2) ∙ to_first b u i e z.0 z.1) z.1

    -- a block that some path of blocks reaches is one of the code's
    pub reached_below : {a b : ℕ} {l : List ℕ} → Path (block_successors code) a l b → a < length (blocks code) → b < length (blocks code)
    reached_below stop lt = lt
    reached_below (step {i = a} {j = c} d w) lt = reached_below w (successors_below a c d)

    -- An instruction is reached exactly if its block is.
    pub reached_iff : (b : ℕ) → b < length (blocks code) → (u : List ℕ) (i : ℕ) (v : List ℕ) → body code b ≡ u ++ (i ∷ v)
        → Reached (program code parameter) i ↔ Reached (block_program initialization (program code parameter) (block_graph code)) b
    reached_iff b lt u i v e = (there, λ r. reached_point (program code parameter) (block_graph code) basic_blocks b r.1 u i v e)
      where
        there : Reached (program code parameter) i → Reached (block_program initialization (program code parameter) (block_graph code)) b
        there r =
            let y : Place (block_graph code) 0 r.0 i = entry_place (program code parameter) (block_graph code) basic_blocks r.1 in
            let q = block_place_unique code y.block b y.front u i y.rest v (reached_below y.way blocks_some) lt y.is e in
            (y.passed, subst (λ (c : ℕ). Path (block_successors code) 0 y.passed c) q.0 y.way)
