-- The forms of records and chains (this project's): what the record's text can say.
use Rattle.std.specs.Prelude.{ℕ, ◌^◌, List, [], ◌∷◌, ◌++◌, length, Bool, true, not, ◌&&◌, ◌||◌, nat_eq, nat_lt, nat_le, Option, Some, None}
use Rattle.std.specs.List.{list_all}
use Rattle.jvm_model.specs.Classes.{member}
use Rattle.order_law.specs.declared.edges.{Edge.Edge, EdgeKind.EdgeKind, EdgeKind.TheVariants.Raw, EdgeKind.TheVariants.Waw, EdgeKind.TheVariants.War}
use Rattle.order_law.specs.declared.records.{Reach.Reach, More.More}

-- at most 1,024 tests, each with at most 2 ^ 26 units
abbrev pub are_units : List ℕ → Bool
are_units units = nat_le (length units) 1024 && list_all (λ u. nat_le u (2 ^ 26)) units

-- 1 to 203 printable bytes
abbrev pub is_place_text : List ℕ → Bool
is_place_text t = nat_le 1 (length t) && (nat_le (length t) 203 && list_all (λ b. nat_le 32 b && nat_le b 126) t)

-- an edge between two of n tests, the earlier one first, at 1 to 2 ^ 28 locations
abbrev pub is_edge : ℕ → Edge → Bool
is_edge n e = nat_le 1 e.earlier && (nat_lt e.earlier e.later && (nat_le e.later n && (nat_le 1 e.count && (nat_le e.count (2 ^ 28) && is_place_text e.first))))

abbrev pub kind_number : EdgeKind → ℕ
kind_number Raw = 0
kind_number Waw = 1
kind_number War = 2

-- the edge comes before the other: by the later test, then the earlier one, then the kind
abbrev pub edge_before : Edge → Edge → Bool
edge_before e f = nat_lt e.later f.later || (nat_eq e.later f.later && (nat_lt e.earlier f.earlier || (nat_eq e.earlier f.earlier && nat_lt (kind_number e.kind) (kind_number f.kind))))

abbrev pub edges_ascend : List Edge → Bool
edges_ascend [] = true
edges_ascend (e ∷ []) = true
edges_ascend (e ∷ f ∷ es) = edge_before e f && edges_ascend (f ∷ es)

unfoldable pub is_record_form : List ℕ → List Edge → Bool
is_record_form units edges = are_units units && (list_all (λ e. is_edge (length units) e) edges && edges_ascend edges)

abbrev pub numbers_ascend : List ℕ → Bool
numbers_ascend [] = true
numbers_ascend (c ∷ []) = true
numbers_ascend (c ∷ d ∷ cs) = nat_lt c d && numbers_ascend (d ∷ cs)

-- at least one class of c, ascending
abbrev pub is_reach : ℕ → Reach → Bool
is_reach c r = nat_le 1 (length r.classes) && (list_all (λ x. nat_le 1 x && nat_le x c) r.classes && numbers_ascend r.classes)

-- the reach of each test, over at most 1,024 classes
unfoldable pub is_reach_form : List ℕ → Option More → Bool
is_reach_form units None = true
is_reach_form units (Some m) = nat_le (length m.classes) 1024 && (nat_eq (length m.reach) (length units) && list_all (λ r. is_reach (length m.classes) r) m.reach)

abbrev pub no_repeats : List ℕ → Bool
no_repeats [] = true
no_repeats (t ∷ l) = not (member t l) && no_repeats l

abbrev pub joined : List (List ℕ) → List ℕ
joined [] = []
joined (l ∷ ls) = l ++ joined ls

-- no list is empty, and no test stands twice in them
unfoldable pub are_chains : List (List ℕ) → Bool
are_chains ls = list_all (λ l. nat_le 1 (length l)) ls && no_repeats (joined ls)
