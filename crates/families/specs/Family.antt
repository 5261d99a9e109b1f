-- The graphs of the families: how many vertices, and which pairs of them are joined, the lower first. Assumes nothing.
use Rattle.std.specs.Prelude.{ℕ, ◌+◌, ◌-◌, ◌%◌, Bool, true, not, ◌&&◌, ◌||◌, ◌==◌, nat_lt, nat_le, if◌then◌else◌, List, ◌++◌, codes, decimal}
use Rattle.families.specs.Cycle.{next_to}
use Rattle.families.specs.declared.family.Family.{Family}
use Rattle.families.specs.declared.family.Family.TheVariants.{Complete, Wheel, Grotzsch, Spindle}

-- how many vertices
abbrev pub vertices_of : Family → ℕ
vertices_of (Complete vertices) = vertices
vertices_of (Wheel rim) = rim + 1
vertices_of Grotzsch = 11
vertices_of Spindle = 7

-- a cycle of five, a twin of each of its vertices that is joined to the neighbors of that vertex, and a vertex that is joined to all twins
abbrev pub grotzsch_joins : ℕ → ℕ → Bool
grotzsch_joins i j =
    (if nat_lt j 5 then next_to 5 i j else (if nat_lt j 10 then (nat_lt i 5 && next_to 5 i (j - 5)) else nat_le 5 i))

-- two triangles, 1 2 3 and 4 5 6: the vertex 0 is joined to two corners of each, and their last corners are joined
abbrev pub spindle_joins : ℕ → ℕ → Bool
spindle_joins i j =
    (if i == 0 then not (j % 3 == 0) else (if nat_lt i 3 then nat_le j 3 else (if i == 3 then j == 6 else true)))

-- whether two vertices are joined
abbrev pub joins_of : Family → ℕ → ℕ → Bool
joins_of (Complete vertices) i j = true
joins_of (Wheel rim) i j = j == rim || next_to rim i j
joins_of Grotzsch i j = grotzsch_joins i j
joins_of Spindle i j = spindle_joins i j

-- the text of a graph: its family, and of how many vertices
abbrev pub family_text : Family → List ℕ
family_text (Complete vertices) = codes "complete " ++ decimal vertices
family_text (Wheel rim) = codes "wheel " ++ decimal rim
family_text Grotzsch = codes "grotzsch"
family_text Spindle = codes "spindle"
