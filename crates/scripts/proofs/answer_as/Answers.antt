use Rattle.std.proofs.Common.{sym, subst}
use Rattle.scripts.specs.Entries.{lent, RanAs, bits, bits_triangles, four, four_triangles}
use Rattle.scripts.specs.Kinds.{kind_number}
use Rattle.scripts.proofs.answer_as.Goals as goal

pub returns-in-Bits : goal.returns-in-Bits
returns-in-Bits c = subst (λ k. RanAs c.args.script.now (lent c.args.table.now c.args.certificate.now c.args.text.now) c.answer_over_bits.result (lent c.answer_over_bits.new.table c.answer_over_bits.new.certificate c.answer_over_bits.new.text) (kind_number k)) (sym c.in-Bits.is) (bits c.answer_over_bits.ensures)

pub returns-in-BitsTriangles : goal.returns-in-BitsTriangles
returns-in-BitsTriangles c = subst (λ k. RanAs c.args.script.now (lent c.args.table.now c.args.certificate.now c.args.text.now) c.answer_over_bits-in-BitsTriangles.result (lent c.answer_over_bits-in-BitsTriangles.new.table c.answer_over_bits-in-BitsTriangles.new.certificate c.answer_over_bits-in-BitsTriangles.new.text) (kind_number k)) (sym c.in-BitsTriangles.is) (bits_triangles c.answer_over_bits-in-BitsTriangles.ensures)

pub returns-in-Four : goal.returns-in-Four
returns-in-Four c = subst (λ k. RanAs c.args.script.now (lent c.args.table.now c.args.certificate.now c.args.text.now) c.answer_over_four.result (lent c.answer_over_four.new.table c.answer_over_four.new.certificate c.answer_over_four.new.text) (kind_number k)) (sym c.in-Four.is) (four c.answer_over_four.ensures)

pub returns-in-FourTriangles : goal.returns-in-FourTriangles
returns-in-FourTriangles c = subst (λ k. RanAs c.args.script.now (lent c.args.table.now c.args.certificate.now c.args.text.now) c.answer_over_four-in-FourTriangles.result (lent c.answer_over_four-in-FourTriangles.new.table c.answer_over_four-in-FourTriangles.new.certificate c.answer_over_four-in-FourTriangles.new.text) (kind_number k)) (sym c.in-FourTriangles.is) (four_triangles c.answer_over_four-in-FourTriangles.ensures)
