use Rattle.monomials.proofs.Places as places
use Rattle.monomials.proofs.Sorted as sorted
use Rattle.monomials.proofs.pascal.order.order_stands.Goals as goal

pub returns : goal.returns
returns c = record { counted = places.counted; placed = places.placed; onto = places.onto; ordered = sorted.ordered; apart = sorted.apart }
