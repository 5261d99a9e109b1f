use Rattle.std.proofs.Common.{◌≡◌, subst, sym, rules, arith}
use Rattle.std.specs.Option.{option_map}
use Rattle.nulla.specs.declared.call.Call.TheVariants.{AddEdge, RemoveEdge}
use Rattle.plan.specs.Spelling.{Parsed, opens, raises}
use Rattle.plan.proofs.Spelled.{only, parsed_add, parsed_remove}
use Rattle.plan.proofs.line.parse.Goals as goal

pub returns-in-66 : goal.returns-in-66
returns-in-66 c = opens (only c.args.line.now 66 (omega arith) (search rules))

pub returns-in-82 : goal.returns-in-82
returns-in-82 c = raises (only c.args.line.now 82 (omega arith) (search rules))

pub returns-in-67 : goal.returns-in-67
returns-in-67 c =
    let is : c.map-in-67.result ≡ option_map (λ e. AddEdge e.0 e.1) c.ends-in-67.result = search rules in
    subst (Parsed c.args.line.now) (sym is) (parsed_add c.args.line.now c.ends-in-67.result (search rules) c.ends-in-67.ensures)

pub returns-in-87 : goal.returns-in-87
returns-in-87 c =
    let is : c.map.result ≡ option_map (λ e. RemoveEdge e.0 e.1) c.ends.result = search rules in
    subst (Parsed c.args.line.now) (sym is) (parsed_remove c.args.line.now c.ends.result (search rules) c.ends.ensures)
