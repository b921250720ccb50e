-- `reads::block_reads` meets its contract: what the block uses is initialized, so its reads are filled; else `check_reads` answers.
-- Assumes nothing.
use Rattle.reads.specs.Reads.{held_set}
use Rattle.std.proofs.Common.{sym, ap, ap₂, ◌∙◌, List, ℕ, length, arith}
use Rattle.bitset.specs.Operations.{within}
use Rattle.dataflow.specs.Code.{Instruction}
use Rattle.script.specs.Script.{flow_code}
use Rattle.script.proofs.ScriptLaws.{code_at}
use Rattle.sheet.specs.Decode.{parts_of}
use Rattle.reads.proofs.FrontLaws.{charged-filled}
use Rattle.reads.proofs.block_reads.Goals as goal

pub returns-then-within : goal.returns-then-within
returns-then-within g c =
    let a = c.args in
    let s = a.sheet.now.bytes.now in
    let m = a.s.now in
    charged-filled (flow_code (parts_of s)) (held_set g.R.Run.layout m) g.R.Run.layout g.R.Run.limits a.meter a.block a.start a.end m _ c.requires.3
    (λ i h. ap (λ (v : Instruction). v.emptied) (code_at s a.sheet.now.script c.requires.0.sound i (omega (arith, h, c.requires.4, c.requires.0.instructions))))
    c.requires.2 (ap (λ (ws : List ℕ). length ws) (sym c.row-2.ensures.is) ∙ c.row-2.ensures.long)
    (ap₂ within (sym c.row.ensures.is) (sym c.row-2.ensures.is) ∙ sym c.within.ensures ∙ c.if-within.true)
    c.charge_reads.ensures
