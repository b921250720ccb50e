-- After i turns the first i elements stand, and the rest is as it was.
use Rattle.std.proofs.Common.{◌≡◌, ◌≤◌, length}
use Rattle.blocklist.proofs.Filled.{filled}
use Rattle.blocklist.proofs.fill.Given as goal

abbrev pub invariant-loop-i : goal.invariant-loop-i
invariant-loop-i g l = record {
  stands : l.list ≡ filled (g.T.Listed.listed l.s g.R.Run.layout.blocks) l.initial.list l.i;
  inside : l.i ≤ length l.initial.list;
}
