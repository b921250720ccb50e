-- What a call with a list of block structs does: its contract, read so, is `BlocksVerified` and its kin. Assumes nothing.
use mathlib.Core.Path.{◌≡◌, refl, sym, ap, ap₂, subst, ◌∙◌}
use mathlib.Core.List.{List, [], ◌∷◌, ◌++◌}
use Prim.Native.Nat.{ℕ, suc, ◌+◌, ◌-◌, ◌^◌, ◌%◌, ◌/◌, ◌≤◌, ◌<◌}
use native.Mathlib.Omega.{arith}
use lib.ListN.{length, get_or, replicate}
use Rattle.dataflow.specs.Lists.{tabulate, flag}
use Rattle.dataflow.proofs.Lists.{tabulate_among, tabulate_same, tabulate_append}
use Rattle.dataflow.specs.Code.{leaders, block_successors}
use Rattle.dataflow.specs.Results.{reachable}
use Rattle.budget.specs.declared.FlowBudget.{FlowBudget}
use Rattle.budget.specs.declared.Limits.{Limits}
use Rattle.budget.specs.Budget.{todays, counted, NowhereLower}
use Rattle.memory.specs.Cells.{Mem}
use Rattle.sheet.specs.declared.script.Script.{Script}
use Rattle.sheet.specs.Decode.{parts_of}
use Rattle.sheet.specs.Scripts.{script_of}
use Rattle.instructions.specs.Sound.{Sound}
use Rattle.script.specs.Script.{flow_code, parameter_in}
use Rattle.outcome.specs.Outcome.{Lengths, lengths_with, Outcome, accepted, refused}
use Rattle.outcome.specs.Buffers.{block_record}
use Rattle.demands.proofs.DemandLaws.{accepted_sound}
use Rattle.blocklist.specs.List.{record_in}
use Rattle.block_records.specs.declared.Block.{Block}
use Rattle.block_records.specs.Records.{block_in, listed_block}
use Rattle.block_records.specs.Blocks.{zero_block, block_of}
use Rattle.block_records.proofs.RecordLaws.{listed_in, listed_behind}
use Rattle.added.proofs.OutcomeLaws.{accepted_with_sound}
use Rattle.answers.specs.declared.AnswerWithin.{AnswerWithin}
use Rattle.answers.specs.Answers.{Answer, outcome_by}
use Rattle.answers.proofs.LimitLaws.{counted-above}
use Rattle.flow.specs.Call.{Lists, Own, With, Called}
use Rattle.flow.specs.BlocksVerify.{sheet_block, blocks_after, lengths_of, BlocksVerified}
use Rattle.flow.specs.BlocksWithin.{BlocksVerifiedUnder, BlocksVerifiedWithin}
use Rattle.flow.specs.BlocksWith.{BlocksVerifiedWith}
use Rattle.flow.proofs.Bounds.{small_start, small-flag, small_count, small_successor}

-- ---- lists

-- record after record: the blocks, then zeros
module _ (m : Mem) (f : ℕ → Block) (blocks : ℕ) (is : (c : ℕ) → c < blocks → block_in m c ≡ f c) where
  pub blocks_then_zeros : (n : ℕ) → blocks ≤ n → tabulate 0 n (listed_block m blocks) ≡ tabulate 0 blocks f ++ replicate (n - blocks) zero_block
  blocks_then_zeros n le =
      let e : n ≡ blocks + (n - blocks) = omega arith in
      ap (λ (i : ℕ). tabulate 0 i (listed_block m blocks)) e
      ∙ tabulate_append 0 blocks (n - blocks) (listed_block m blocks)
      ∙ ap₂ (λ (l r : List Block). l ++ r) (tabulate_among 0 blocks (listed_block m blocks) f (λ c lo hi. sym (listed_in m c blocks (omega arith) (sym (is c (omega arith))))))
      (tabulate_among (0 + blocks) (n - blocks) (listed_block m blocks) (λ c. zero_block) (λ c lo hi. sym (listed_behind m c blocks (omega arith)))
      ∙ tabulate_same (0 + blocks) (n - blocks) zero_block)

-- ---- the numbers of a record, cut to 32 bits

-- a record's numbers, each cut
cut_block : List ℕ → Block
cut_block l = record {
  start = get_or l 0 0 % 2 ^ 32;
  end = get_or l 1 0 % 2 ^ 32;
  reachable = get_or l 2 0 % 2 ^ 32;
  successor_count = get_or l 3 0 % 2 ^ 32;
  successor_0 = get_or l 4 0 % 2 ^ 32;
  successor_1 = get_or l 5 0 % 2 ^ 32;
}

cut-none : (a b c d e f : ℕ) → a < 2 ^ 32 → b < 2 ^ 32 → c < 2 ^ 32 → d < 2 ^ 32 → e < 2 ^ 32 → f < 2 ^ 32
    → cut_block (a ∷ b ∷ c ∷ d ∷ e ∷ f ∷ []) ≡ block_of (a ∷ b ∷ c ∷ d ∷ e ∷ f ∷ [])
unfolding cut_block
cut-none a b c d e f la lb lc ld le lf =
    let ea : a % 2 ^ 32 ≡ a = omega arith in
    let eb : b % 2 ^ 32 ≡ b = omega arith in
    let ec : c % 2 ^ 32 ≡ c = omega arith in
    let ed : d % 2 ^ 32 ≡ d = omega arith in
    let ee : e % 2 ^ 32 ≡ e = omega arith in
    let ef : f % 2 ^ 32 ≡ f = omega arith in rw (ea, eb, ec, ed, ee, ef) refl

-- a block's words, where they are its record
block-is : (s : List ℕ) (x : Script) → Sound s x → (m : Mem) (c : ℕ)
    → record_in m c ≡ block_record (flow_code (parts_of s)) c → block_in m c ≡ sheet_block s c
unfolding cut_block
block-is s x ok m c e =
    ap cut_block e
    ∙ cut-none (get_or (leaders (flow_code (parts_of s))) c (length (flow_code (parts_of s)))) (get_or (leaders (flow_code (parts_of s))) (suc c) (length (flow_code (parts_of s))))
    (flag (reachable (flow_code (parts_of s)) c)) (length (block_successors (flow_code (parts_of s)) c)) (get_or (block_successors (flow_code (parts_of s)) c) 0 0) (get_or (block_successors (flow_code (parts_of s)) c) 1 0)
    (small_start s x ok c) (small_start s x ok (suc c)) (small-flag (reachable (flow_code (parts_of s)) c)) (small_count s x ok c) (small_successor s x ok c 0) (small_successor s x ok c 1)

-- under today's limits this is what `verify` does
blocks-own : {s : List ℕ} {b : FlowBudget} {list list' : List Block} {v v' w w' : List ℕ} {r : Answer} → BlocksVerifiedUnder s todays b list list' v v' w w' r
    → BlocksVerified s b list list' v v' w w' r
blocks-own h = record { verified = h.verified; blocks = h.blocks }

-- ---- the call

-- the list: the blocks, then zeros
blocks_are : (s : List ℕ) (records : ℕ) (o : Outcome) (n : Lengths) → n.records ≡ records
    → ((id blocks awaits : ℕ) (left : FlowBudget) → o ≡ accepted id blocks awaits left → Sound s (script_of s))
    → (list' : List Block) → Lists listed_block s records records o list' → list' ≡ blocks_after s n o
blocks_are s records (refused r id b) n e sound list' h =
    h.is
    ∙ blocks_then_zeros h.cells (sheet_block s) 0 (λ c lt. absurd (omega arith)) records (omega arith)
    ∙ ap (λ (k : ℕ). replicate k zero_block) (let z : records - 0 ≡ n.records = omega (arith, e) in z)
blocks_are s records (accepted id blocks awaits b) n e sound list' h =
    h.is
    ∙ blocks_then_zeros h.cells (sheet_block s) blocks
    (λ c lt. block-is s (script_of s) (sound id blocks awaits b refl) h.cells c (h.record_is c lt)) records h.lent
    ∙ ap (λ (k : ℕ). tabulate 0 blocks (sheet_block s) ++ replicate (k - blocks) zero_block) (sym e)

-- a struct is a whole record
single : (n : ℕ) → n / 1 ≡ n
single n = omega arith

lists_single : {s : List ℕ} {n : ℕ} {o : Outcome} {list' : List Block} → Lists listed_block s (n / 1) n o list' → Lists listed_block s n n o list'
lists_single {s} {n} {o} {list'} = subst (λ (k : ℕ). Lists listed_block s k n o list') (single n)

module _ {s : List ℕ} {b : FlowBudget} {list list' : List Block} {v v' w w' : List ℕ} where
  -- with the sheet's own parameters, under any limits as they count
  module _ {l : Limits} (r : Answer) (h : Called 1 listed_block s (Own s l b) list list' v v' w w' (outcome_by r)) where
    says_own : Own s l b (lengths_of list v w) (outcome_by r) v' w'
    says_own = subst (λ (k : ℕ). Own s l b (lengths_with w v k) (outcome_by r) v' w') (single (length list)) h.says

    own_left : list' ≡ blocks_after s (lengths_of list v w) (outcome_by r)
    own_left =
        blocks_are s (length list) (outcome_by r) (lengths_of list v w) refl
        (λ id blocks awaits left e. accepted_sound s (parameter_in (parts_of s)) l (lengths_of list v w) b id blocks awaits left (sym says_own.answer ∙ e))
        list' (lists_single h.blocks)

    pub blocks_under : BlocksVerifiedUnder s l b list list' v v' w w' r
    blocks_under = record { verified = says_own; blocks = own_left }

  -- `verify`
  pub blocks_verified : (r : Answer) → Called 1 listed_block s (Own s todays b) list list' v v' w w' (outcome_by r) → BlocksVerified s b list list' v v' w w' r
  blocks_verified r h = blocks-own (blocks_under r h)

  -- `verify_within`
  pub blocks_within : (l : Limits) (r : AnswerWithin) → Called 1 listed_block s (Own s (counted l) b) list list' v v' w w' (outcome_by r.answer)
      → r.limits ≡ l → BlocksVerifiedWithin s l b list list' v v' w w' r
  blocks_within l r h e = record { verified = blocks_under r.answer h; limits = e }

  -- `verify_with`
  pub blocks_with : (added : List ℕ) (l : Limits) (r : AnswerWithin)
      → Called 1 listed_block s (With s added (counted l) b) list list' v v' w w' (outcome_by r.answer) → r.limits ≡ l
      → BlocksVerifiedWith s added l b list list' v v' w w' r
  blocks_with added l r h e =
      let says : With s added (counted l) b (lengths_of list v w) (outcome_by r.answer) v' w' =
      subst (λ (k : ℕ). With s added (counted l) b (lengths_with w v k) (outcome_by r.answer) v' w') (single (length list)) h.says in
      record {
        verified = says;
        blocks = blocks_are s (length list) (outcome_by r.answer) (lengths_of list v w) refl
            (λ id blocks awaits left q.
            accepted_with_sound s added (counted l) (lengths_of list v w) b id blocks awaits left (sym says.answer ∙ q))
            list' (lists_single h.blocks);
        limits = e;
      }

-- today's limits, and any above them: it does what `verify` does
pub blocks-todays : {s : List ℕ} {l : Limits} {b : FlowBudget} {list list' : List Block} {v v' w w' : List ℕ} {r : AnswerWithin} → NowhereLower todays l
    → BlocksVerifiedWithin s l b list list' v v' w w' r → BlocksVerified s b list list' v v' w w' r.answer
blocks-todays {s} {l} {b} {list} {list'} {v} {v'} {w} {w'} {r} le h =
    blocks-own (subst (λ (k : Limits). BlocksVerifiedUnder s k b list list' v v' w w' r.answer) (counted-above l le) h.verified)
