-- A row that stands for a set, under the transfer of liveness. Assumes nothing.
use mathlib.Core.Path.{◌≡◌, refl, sym, ap, ap₂, ◌∙◌}
use mathlib.Core.Bool.{Bool, true, false, not, ◌&&◌, ◌||◌, or_comm}
use mathlib.Core.List.{List, [], ◌∷◌}
use Prim.Native.Nat.{ℕ, ◌*◌}
use native.Mathlib.Omega.{arith}
use lib.Dec.{eqb}
use lib.ListN.{length}
use Rattle.bitset.specs.Sets.{member}
use Rattle.bitset.specs.Operations.{removed}
use Rattle.bitset.proofs.SetLaws.{same-either_way, length_removed, member_removed}
use Rattle.dataflow.specs.Lists.{elem}
use Rattle.dataflow.specs.Analyses.{live_transfer}
use Rattle.dataflow.specs.Code.{Instruction, instruction_at, program}
use Rattle.bitset.specs.Below.{AllBelow}
use Rattle.instructions.specs.Sets.{inserted_all}
use Rattle.blocks.proofs.MemberLaws.{member-all}
use Rattle.awaits.specs.Awaits.{removed_all}
use Rattle.answer.specs.Words.{Means}

-- ---- slots taken out
pub length-removed_all : (l ws : List ℕ) → length (removed_all l ws) ≡ length ws
unfolding removed_all
length-removed_all [] ws = refl
length-removed_all (x ∷ l) ws = length-removed_all l (removed ws x) ∙ length_removed ws x

pub member_removed-all : (l ws : List ℕ) (w k : ℕ) → length ws ≡ w → AllBelow (64 * w) l
    → member (removed_all l ws) k ≡ (not (elem k l) && member ws k)
unfolding removed_all
member_removed-all [] ws w k q a = refl
member_removed-all (x ∷ l) ws w k q a =
    let h = a.0 in
    member_removed-all l (removed ws x) w k (length_removed ws x ∙ q) a.1
    ∙ ap (λ (t : Bool). not (elem k l) && t) (member_removed ws x (omega arith) k ∙ ap (λ (t : Bool). not t && member ws k) (same-either_way x k))
    ∙ swap (eqb k x) (elem k l) (member ws k)
  where
    swap : (p e t : Bool) → (not e && (not p && t)) ≡ (not (p || e) && t)
    swap true true t = refl
    swap true false t = refl
    swap false e t = refl

-- the outputs are taken out, then the inputs put in
pub means-live : (code : List Instruction) (parameter : ℕ → Bool) (i w : ℕ) (ws : List ℕ) (f : ℕ → Bool) (outs : List ℕ) → length ws ≡ w
    → (instruction_at code i).outputs ≡ outs → AllBelow (64 * w) outs → Means w ws f → (ins : List ℕ) → (instruction_at code i).inputs ≡ ins
    → AllBelow (64 * w) ins → Means w (inserted_all ins (removed_all outs ws)) (λ s. live_transfer (program code parameter) i s (f s))
means-live code parameter i w ws f outs long o below means ins e a s h =
    member-all ins (removed_all outs ws) w s (length-removed_all outs ws ∙ long) a
    ∙ ap (λ (t : Bool). t || elem s ins) (member_removed-all outs ws w s long below ∙ ap (λ (t : Bool). not (elem s outs) && t) (means s h))
    ∙ or_comm (not (elem s outs) && f s) (elem s ins)
    ∙ sym (ap₂ (λ (b c : List ℕ). elem s b || (not (elem s c) && f s)) e o)
