-- A call as the rules see it: what is asked, the numbers that it is passed, and the bytes that a check is handed. Assumes nothing.
use Rattle.std.specs.Prelude.{ℕ, List}
use Rattle.nulla.specs.declared.call.Call.{Call}
use Rattle.nulla.specs.declared.call.Call.TheVariants.{OpenVertex, AddEdge, RemoveEdge, Raise, TryEdge, Check}

pub data Request : Type 0 where
  open_vertex : Request
  add_edge : (i j : ℕ) → Request
  remove_edge : (i j : ℕ) → Request
  raise_degree : Request
  -- the ends of an edge, and a degree
  try_edge : (i j d : ℕ) → Request
  -- the bytes of a certificate
  check_certificate : (bytes : List ℕ) → Request

-- what a call that is written down asks
abbrev pub request_of : Call → Request
request_of OpenVertex = open_vertex
request_of (AddEdge i j) = add_edge i j
request_of (RemoveEdge i j) = remove_edge i j
request_of Raise = raise_degree
request_of (TryEdge i j d) = try_edge i j d
request_of (Check bytes) = check_certificate bytes.now

-- one request made on two solvers: the same, or two checks, whatever the certificates that they are handed
pub data SameRequest : Request → Request → Type 0 where
  same : {q : Request} → SameRequest q q
  checks : {a b : List ℕ} → SameRequest (check_certificate a) (check_certificate b)

-- a check
abbrev pub IsCheck : Request → Type 0
IsCheck open_vertex = ⊥
IsCheck (add_edge i j) = ⊥
IsCheck (remove_edge i j) = ⊥
IsCheck raise_degree = ⊥
IsCheck (try_edge i j d) = ⊥
IsCheck (check_certificate bytes) = Unit {0}

-- a removal
abbrev pub Removes : Request → Type 0
Removes open_vertex = ⊥
Removes (add_edge i j) = ⊥
Removes (remove_edge i j) = Unit {0}
Removes raise_degree = ⊥
Removes (try_edge i j d) = ⊥
Removes (check_certificate bytes) = ⊥
