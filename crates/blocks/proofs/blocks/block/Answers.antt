-- `blocks::blocks::block` meets its contract. Assumes nothing.
use Rattle.std.proofs.Common.{arith}
use Rattle.blocks.proofs.TransferLaws.{noted_stands, noted_fits}
use Rattle.blocks.proofs.BlockLaws.{emptied, spans, end_inside, emptied_ready, last_inside, last, still_ready, built_one}
use Rattle.blocks.proofs.blocks.block.Goals as goal

pub overflow_sub-end : goal.overflow_sub-end
overflow_sub-end g c =
    let w = c.get-start.ensures in
    let em = emptied c.requires.0 c.requires.1 c.span.ensures c.empty.ensures w.whole w.is c.get-end.ensures.is in
    omega (arith, (spans em).some)

pub get-at-requires : goal.get-at-requires
get-at-requires g c =
    let w = c.get-start.ensures in
    let em = emptied c.requires.0 c.requires.1 c.span.ensures c.empty.ensures w.whole w.is c.get-end.ensures.is in
    last_inside em

pub instruction_at-requires : goal.instruction_at-requires
instruction_at-requires g c =
    let w = c.get-start.ensures in
    let em = emptied c.requires.0 c.requires.1 c.span.ensures c.empty.ensures w.whole w.is c.get-end.ensures.is in
    noted_stands (emptied_ready em) (last_inside em) c.get-at.ensures.is

pub instruction-last-requires : goal.instruction-last-requires
instruction-last-requires g c =
    let w = c.get-start.ensures in
    let em = emptied c.requires.0 c.requires.1 c.span.ensures c.empty.ensures w.whole w.is c.get-end.ensures.is in
    noted_fits (emptied_ready em) (last_inside em) c.get-at.ensures.is c.instruction_at.ensures

pub successors-requires : goal.successors-requires
successors-requires g c =
    let w = c.get-start.ensures in
    let em = emptied c.requires.0 c.requires.1 c.span.ensures c.empty.ensures w.whole w.is c.get-end.ensures.is in
    let v = c.instruction-last in
    let l = last em c.get-at.ensures.is c.instruction_at.ensures v.result v.ensures.kind_is v.ensures.fields_are in
    (c.requires.1, l.targets, l.behind)

pub transfer-requires : goal.transfer-requires
transfer-requires g c =
    let w = c.get-start.ensures in
    let em = emptied c.requires.0 c.requires.1 c.span.ensures c.empty.ensures w.whole w.is c.get-end.ensures.is in
    let v = c.instruction-last in
    let l = last em c.get-at.ensures.is c.instruction_at.ensures v.result v.ensures.kind_is v.ensures.fields_are in
    (still_ready em l.next c.successors.ensures, c.requires.1, omega (arith, (spans em).some), end_inside em)

pub returns : goal.returns
returns g c =
    let w = c.get-start.ensures in
    let em = emptied c.requires.0 c.requires.1 c.span.ensures c.empty.ensures w.whole w.is c.get-end.ensures.is in
    let v = c.instruction-last in
    let l = last em c.get-at.ensures.is c.instruction_at.ensures v.result v.ensures.kind_is v.ensures.fields_are in
    built_one em l.next c.successors.ensures c.transfer.ensures
