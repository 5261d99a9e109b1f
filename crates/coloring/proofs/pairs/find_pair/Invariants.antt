use Rattle.std.proofs.Common.{◌≡◌, ◌+◌, ◌≤◌, length}
use Rattle.graphs.specs.Graph.{joined}
use Rattle.coloring.specs.Pairs.{upto, pair, row}
use Rattle.coloring.proofs.pairs.find_pair.Given as goal

abbrev pub invariant-loop-j : goal.invariant-loop-j
invariant-loop-j l = (l.seen ≡ length (upto (row (joined l.graph) l.n) l.i) + length (upto (pair (joined l.graph) l.i) l.j)) × (l.seen ≤ l.wanted)

abbrev pub invariant-loop-i : goal.invariant-loop-i
invariant-loop-i l = (l.seen ≡ length (upto (row (joined l.graph) l.n) l.i)) × (l.seen ≤ l.wanted)
