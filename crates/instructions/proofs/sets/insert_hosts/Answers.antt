use Rattle.std.proofs.Common.{◌∙◌, sym, ap, List, ℕ, length, replicate, arith}
use Rattle.sheet.specs.Decode.{SlotKind}
use Rattle.instructions.specs.Slots.{SlotsStand}
use Rattle.instructions.specs.Sets.{inserted_hosts, host_row}
use Rattle.instructions.proofs.Sound.{passed_sound}
use Rattle.instructions.proofs.HostWords.{hosting_none, hosting_stand, hosting_more, hosting_all, hosts-first}
use Rattle.instructions.proofs.sets.insert_hosts.Goals as goal

pub overflow_mul-sheet : goal.overflow_mul-sheet
overflow_mul-sheet c = let p = passed_sound c.args.sheet.now in omega (arith, p.few_slots, p.few_host_words)

pub loop-word-init : goal.loop-word-init
loop-word-init c = hosting_none c.args.row.now

pub host_word-hosts-requires : goal.host_word-hosts-requires
host_word-hosts-requires c =
    let x = c.args.sheet.now in
    let p = passed_sound x in
    let first : SlotsStand x.bytes.now x.script.slots_at c.min-left.result =
    record { each = λ k h. p.slots_stand.each k (omega (arith, c.min-left.ensures)) } in
    (hosting_stand c.loop-word.invariant c.min-n.result first (omega (arith, c.min-n.ensures)), omega (arith, c.min-n.ensures))

pub loop-word-preserved : goal.loop-word-preserved
loop-word-preserved c =
    hosting_more c.loop-word.invariant c.min-n.result (omega (arith, c.loop-word.auto.row)) c.loop-word.auto.row (omega (arith, c.min-n.ensures)) c.host_word-hosts.ensures

pub returns : goal.returns
unfolding host_row
returns c =
    let a = c.args in
    let x = a.sheet.now in
    let p = passed_sound x in
    let w : ℕ = length a.row.now in
    let all = hosting_all c.loop-word.invariant (omega (arith, c.loop-word.auto.row)) (omega (arith, c.min-left.ensures, c.requires)) c.loop-word.auto.row in
    let few = hosts-first x.bytes.now x.script.slots_at c.min-left.result x.script.slots (replicate w 0) (omega (arith, c.min-left.ensures))
    (λ k h m. p.hosts_before k (omega (arith, c.min-left.ensures)) m) in
    sym all ∙ few ∙ ap (λ (ks : List SlotKind). inserted_hosts ks 0 (replicate w 0)) (sym p.kinds_are)
