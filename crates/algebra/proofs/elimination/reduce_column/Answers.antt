use Rattle.std.proofs.Common.{◌+◌, ◌*◌, ap, ◌∙◌, arith}
use Rattle.std.proofs.lemmas.List.{get_or_read}
use Rattle.algebra.proofs.Places.{row_before}
use Rattle.algebra.proofs.Turns.{pivoted, blank_scaled, one_scaled}
use Rattle.algebra.proofs.elimination.reduce_column.Goals as goal

pub clear_column-requires-clause-blank : goal.clear_column-requires-clause-blank
clear_column-requires-clause-blank g c =
    let a = c.args in
    let f = c.in-Some.ensures in
    blank_scaled g.F.Field.laws a.rows a.cols a.rank a.col c.in-Some.row c.inv.result a.cells.now c.swap_rows.new.cells c.scale_row.new.cells
    c.requires.column f.low f.high c.requires.blank c.swap_rows.ensures c.scale_row.ensures

pub clear_column-requires-clause-one : goal.clear_column-requires-clause-one
clear_column-requires-clause-one g c =
    let a = c.args in
    let o = g.F.Field.ops in
    let f = c.in-Some.ensures in
    let us = c.swap_rows.new.cells in
    let b = row_before a.rank a.rows a.cols (omega arith) in
    let x = get_or_read us (a.rank * a.cols + a.col) c.index-cells-rank.result (omega arith) c.index-cells-rank.is o.zero in
    one_scaled g.F.Field.laws a.rows a.cols a.rank a.col c.in-Some.row c.inv.result a.cells.now us c.scale_row.new.cells
    c.requires.column f.nonzero c.swap_rows.ensures (c.inv.ensures ∙ ap o.inv x) c.scale_row.ensures

pub returns-clause-found : goal.returns-clause-found
returns-clause-found g c = λ t.
    let a = c.args in
    let o = g.F.Field.ops in
    let f = c.in-Some.ensures in
    let us = c.swap_rows.new.cells in
    let b = row_before a.rank a.rows a.cols (omega arith) in
    let x = get_or_read us (a.rank * a.cols + a.col) c.index-cells-rank.result (omega arith) c.index-cells-rank.is o.zero in
    pivoted g.F.Field.laws a.rows a.cols a.rank a.col c.in-Some.row c.inv.result
    a.cells.now us c.scale_row.new.cells c.clear_column.new.cells
    c.requires.column f.low f.high c.requires.blank f.nonzero
    c.swap_rows.ensures (c.inv.ensures ∙ ap o.inv x) c.scale_row.ensures c.clear_column.ensures
