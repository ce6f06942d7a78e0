-- Records of small suites, computed: the edges, walks and reaches that the definitions give are those that they should.
use Rattle.std.proofs.Common.{◌≡◌, ℕ, ◌+◌, ◌≤◌, List, [], ◌∷◌, ◌++◌, map, take, length, replicate, true, false, refl, sym, ◌∙◌, ap, subst, inl, inr, arith, Some, None, pos, nat_eq}
use Rattle.std.specs.Prelude.{codes}
use Rattle.std.proofs.lemmas.Bool.{cases_eq}
use Rattle.jvm_model.specs.declared.values.{Touch.Touch, Value.TheVariants.Int, Value.TheVariants.Null, Location.Location}
use Rattle.jvm_model.specs.declared.values.Kind.TheVariants as kind
use Rattle.jvm_model.specs.declared.values.Location.TheVariants as place
use Rattle.jvm_model.specs.declared.instr.Instr.TheVariants as form
use Rattle.jvm_model.specs.{declared.program.Program.Program, Classes.class_at, Linked.IsGiven}
use Rattle.jvm_model.proofs.Examples.Parts.{program, class, body, fixed, plain, static, field, static_int, test, int_const, literal, get_static, put_static, print_number, returns, load_this}
use Rattle.jvm_model.proofs.Examples.Suites.{counter_suite, again_suite, read_write_suite, node_suite, bad_init_suite, kept_error_suite, files_suite}
use Rattle.order_law.specs.declared.edges.{Edge.Edge, EdgeKind.EdgeKind, EdgeKind.TheVariants.Raw, EdgeKind.TheVariants.Waw, EdgeKind.TheVariants.War}
use Rattle.order_law.specs.{declared.records.Place.Place, declared.records.Shown.Shown, Conflicts.Member, Conflicts.down, Pairing.PairedList, Pairing.one_more}
use Rattle.order_law.specs.Histories.{Touches, ran_after, touches_of}
use Rattle.order_law.specs.Reach.{inner_class, is_settled, Reaches, own, touched, mentioned, IsReachOf, kinds_of}
use Rattle.order_law.specs.Walk.{Walk, from_static, through, read_text, IsPlaceIn, IsShownIn}
use Rattle.order_law.specs.OwnRecord.{edges_of, edges_in, places_in, owner, cut, conflict_places_in}
use Rattle.order_law.proofs.{Lists.length-paired, OnLiterals.records_on_literals}

-- an edge from the first test to the second
abbrev pub one_two : EdgeKind → ℕ → List ℕ → Edge
one_two k n text = record { earlier = 1; later = 2; kind = k; count = n; first = text }

counter_edges : edges_of counter_suite ≡ one_two Raw 1 (codes "static Counter.n") ∷ []
unfolding records_on_literals
counter_edges = refl

again_edges : edges_of again_suite ≡ one_two Waw 1 (codes "static Counter.n") ∷ []
unfolding records_on_literals
again_edges = refl

read_write_edges : edges_of read_write_suite ≡ one_two War 1 (codes "static P.n") ∷ []
unfolding records_on_literals
read_write_edges = refl

bad_init_edges : edges_of bad_init_suite ≡ one_two Raw 1 (codes "init Bad") ∷ []
unfolding records_on_literals
bad_init_edges = refl

kept_error_edges : edges_of kept_error_suite ≡ one_two Raw 3 (codes "static X.e") ∷ []
unfolding records_on_literals
kept_error_edges = refl

-- a file that is asked for, made, looked at and dropped
abbrev file_edge : EdgeKind → ℕ → ℕ → Edge
file_edge k u t = record { earlier = u; later = t; kind = k; count = 1; first = codes "file \"log\"" }

files_edges : edges_of files_suite ≡ file_edge War 1 2 ∷ file_edge Raw 2 3 ∷ file_edge Raw 2 4 ∷ file_edge Waw 2 4 ∷ file_edge War 3 4 ∷ []
unfolding records_on_literals
files_edges = refl

-- three locations of two objects, the first a static
node_edges : edges_of node_suite ≡ record { earlier = 1; later = 3; kind = Raw; count = 3; first = codes "static List.head" } ∷ []
unfolding records_on_literals
node_edges = refl

-- the walk to the second node: by the list's head and its next field
node_walk : (xs : List Touch) × Walk (ran_after node_suite (down 3) 3).touches 1 xs × (map (λ x. read_text node_suite x.location) xs ≡ codes "static List.head" ∷ codes "field Node.next" ∷ [])
unfolding records_on_literals
node_walk = (_, through refl refl (from_static refl refl), refl)

-- a test that reads a static of a class isn't settled
settled_tests : map (λ t. is_settled counter_suite t) (1 ∷ 2 ∷ []) ≡ true ∷ false ∷ []
unfolding records_on_literals
settled_tests = refl

-- the static that the first test keeps, between the tests that keep it too and the one that prints it
abbrev pub triple_suite : Program
triple_suite = program (class (codes "W") (2 ∷ []) (102 ∷ 103 ∷ 104 ∷ 105 ∷ []) ∷ []) (static_int 32 (codes "n") ∷ [])
    (fixed 32 (codes "a") (codes "()V") (body 1 0 (int_const 1 ∷ put_static 2 ∷ returns ∷ []))
    ∷ fixed 32 (codes "b") (codes "()V") (body 1 0 (int_const 2 ∷ put_static 2 ∷ returns ∷ []))
    ∷ fixed 32 (codes "c") (codes "()V") (body 1 0 (int_const 3 ∷ put_static 2 ∷ returns ∷ []))
    ∷ fixed 32 (codes "d") (codes "()V") (body 1 0 (get_static 2 ∷ print_number)) ∷ [])
    [] (test 32 102 ∷ test 32 103 ∷ test 32 104 ∷ test 32 105 ∷ [])

abbrev pub edge_at : EdgeKind → ℕ → ℕ → List ℕ → Edge
edge_at k u t text = record { earlier = u; later = t; kind = k; count = 1; first = text }

abbrev pub triple : List Edge
triple = edge_at Waw 1 2 (codes "static W.n") ∷ edge_at Waw 2 3 (codes "static W.n") ∷ edge_at Raw 3 4 (codes "static W.n") ∷ []

triple_edges : edges_of triple_suite ≡ triple
unfolding records_on_literals
triple_edges = refl

-- two statics that tie four tests together
abbrev links_suite : Program
links_suite = program (class (codes "V") (2 ∷ 3 ∷ []) (102 ∷ 103 ∷ 104 ∷ 105 ∷ []) ∷ []) (static_int 32 (codes "p") ∷ static_int 32 (codes "q") ∷ [])
    (fixed 32 (codes "a") (codes "()V") (body 1 0 (int_const 1 ∷ put_static 2 ∷ returns ∷ []))
    ∷ fixed 32 (codes "b") (codes "()V") (body 2 0 (get_static 2 ∷ get_static 3 ∷ (1, form.Pop) ∷ print_number))
    ∷ fixed 32 (codes "c") (codes "()V") (body 1 0 (int_const 2 ∷ put_static 3 ∷ returns ∷ []))
    ∷ fixed 32 (codes "d") (codes "()V") (body 1 0 (get_static 3 ∷ print_number)) ∷ [])
    [] (test 32 102 ∷ test 32 103 ∷ test 32 104 ∷ test 32 105 ∷ [])

abbrev pub links : List Edge
links = edge_at Raw 1 2 (codes "static V.p") ∷ edge_at War 2 3 (codes "static V.q") ∷ edge_at Raw 3 4 (codes "static V.q") ∷ []

links_edges : edges_of links_suite ≡ links
unfolding records_on_literals
links_edges = refl

-- one pair of tests with a waw and a war edge: both write p, and the first reads q
abbrev both_suite : Program
both_suite = program (class (codes "V") (2 ∷ 3 ∷ []) (102 ∷ 103 ∷ []) ∷ []) (static_int 32 (codes "p") ∷ static_int 32 (codes "q") ∷ [])
    (fixed 32 (codes "a") (codes "()V") (body 1 0 (get_static 3 ∷ put_static 2 ∷ returns ∷ []))
    ∷ fixed 32 (codes "b") (codes "()V") (body 1 0 (int_const 1 ∷ put_static 3 ∷ int_const 2 ∷ put_static 2 ∷ returns ∷ [])) ∷ [])
    [] (test 32 102 ∷ test 32 103 ∷ [])

both_edges : edges_of both_suite ≡ one_two Waw 1 (codes "static V.p") ∷ one_two War 1 (codes "static V.q") ∷ []
unfolding records_on_literals
both_edges = refl

-- A first location that is of an object: the second that the second test makes, after one of the first test.
abbrev owner_suite : Program
owner_suite = program
    (class (codes "Node") (2 ∷ 3 ∷ []) (102 ∷ []) ∷ record (class (codes "List") (4 ∷ []) (103 ∷ 104 ∷ 105 ∷ [])) { mentions = 34 ∷ 31 ∷ [] } ∷ record (class (codes "Item") [] []) { mentions = 33 ∷ 35 ∷ [] } ∷ class (codes "Far") [] [] ∷ class (codes "Lone") [] [] ∷ [])
    (field 32 (codes "v") (codes "I") (Int (pos 0)) ∷ field 32 (codes "next") (codes "LNode;") Null ∷ static 33 (codes "head") (codes "LNode;") Null ∷ [])
    (plain 32 (codes "<init>") (codes "()V") (body 1 1 (load_this ∷ (3, form.InvokeSpecial (kind.Class 0) 0) ∷ returns ∷ []))
    ∷ fixed 33 (codes "one") (codes "()V") (body 2 0 ((3, form.New 32) ∷ (1, form.Pop) ∷ returns ∷ []))
    ∷ fixed 33 (codes "two") (codes "()V") (body 3 0 ((3, form.New 32) ∷ put_static 4 ∷ get_static 4 ∷ (3, form.New 32) ∷ (3, form.PutField 32 3) ∷ returns ∷ []))
    ∷ fixed 33 (codes "put") (codes "()V") (body 3 0 (get_static 4 ∷ (3, form.GetField 32 3) ∷ int_const 1 ∷ (3, form.PutField 32 2) ∷ returns ∷ [])) ∷ [])
    [] (test 33 103 ∷ test 33 104 ∷ test 33 105 ∷ [])

owner_edges : edges_of owner_suite ≡ record { earlier = 2; later = 3; kind = Raw; count = 2; first = codes "static List.head" } ∷ edge_at Waw 2 3 (codes "field 2:2 Node.v") ∷ []
unfolding records_on_literals
owner_edges = refl

-- objects by their tests and numbers within the tests
owners : map (λ o. owner owner_suite o) (0 ∷ 1 ∷ 2 ∷ []) ≡ (1, 1) ∷ (2, 1) ∷ (2, 2) ∷ []
unfolding records_on_literals
owners = refl

-- a text of 200 bytes stands whole, and a longer one is cut
cut_long : cut (replicate 201 65) ≡ replicate 200 65 ++ codes "..."
cut_long = refl

cut_none : cut (replicate 200 65) ≡ replicate 200 65
cut_none = refl

-- as the first location of an edge
abbrev long_suite : Program
long_suite = program (class (codes "P") (2 ∷ []) (102 ∷ 103 ∷ []) ∷ []) (static_int 32 (replicate 300 110) ∷ [])
    (fixed 32 (codes "read") (codes "()V") (body 1 0 (get_static 2 ∷ print_number))
    ∷ fixed 32 (codes "write") (codes "()V") (body 1 0 (int_const 5 ∷ put_static 2 ∷ returns ∷ [])) ∷ [])
    [] (test 32 102 ∷ test 32 103 ∷ [])

long_edges : edges_of long_suite ≡ one_two War 1 (codes "static P." ++ (replicate 191 110 ++ codes "...")) ∷ []
unfolding records_on_literals
long_edges = refl

-- a test that prints by the stream alone is settled, but not where some code puts the stream
abbrev stream_suite : Program
stream_suite = program (class (codes "S") (2 ∷ []) (102 ∷ 103 ∷ 104 ∷ []) ∷ []) (static_int 32 (codes "n") ∷ [])
    (fixed 32 (codes "a") (codes "()V") (body 2 0 (get_static 0 ∷ literal 1 ∷ (3, form.InvokeVirtual (kind.Class 4) 34) ∷ returns ∷ []))
    ∷ fixed 32 (codes "b") (codes "()V") (body 2 0 (get_static 0 ∷ (1, form.Pop) ∷ get_static 2 ∷ print_number))
    ∷ fixed 32 (codes "c") (codes "()V") (body 2 0 (int_const 1 ∷ put_static 2 ∷ get_static 2 ∷ print_number)) ∷ [])
    (codes "hi" ∷ []) (test 32 102 ∷ test 32 103 ∷ test 32 104 ∷ [])

abbrev put_suite : Program
put_suite = program (class (codes "S") [] (102 ∷ 103 ∷ []) ∷ []) []
    (fixed 32 (codes "a") (codes "()V") (body 2 0 (get_static 0 ∷ (1, form.Pop) ∷ returns ∷ []))
    ∷ fixed 32 (codes "never") (codes "()V") (body 2 0 (get_static 0 ∷ put_static 0 ∷ returns ∷ [])) ∷ [])
    [] (test 32 102 ∷ [])

settled_streams : map (λ t. is_settled stream_suite t) (1 ∷ 2 ∷ 3 ∷ []) ≡ true ∷ false ∷ true ∷ []
unfolding records_on_literals
settled_streams = refl

unsettled_stream : is_settled put_suite 1 ≡ false
unfolding records_on_literals
unsettled_stream = refl

-- The reach of the first test of that suite: its own class, the class of the object that it makes, what its class mentions,
-- and what that mentions; of the built-in classes none, and not the class that nobody names.
one_settled : is_settled owner_suite 1 ≡ true
unfolding records_on_literals
one_settled = refl

one_places : places_in (touches_of owner_suite) 1 ≡ place.Head 0 ∷ place.Field 0 2 ∷ place.Field 0 3 ∷ []
unfolding records_on_literals
one_places = refl

one_kind : kinds_of owner_suite 1 0 ≡ kind.Class 32
unfolding records_on_literals
one_kind = refl

owner_mentions : map (λ c. (class_at owner_suite c).mentions) (32 ∷ 33 ∷ 34 ∷ 35 ∷ []) ≡ [] ∷ (34 ∷ 31 ∷ []) ∷ (33 ∷ 35 ∷ []) ∷ [] ∷ []
unfolding records_on_literals
owner_mentions = refl

owner_classes : length owner_suite.classes ≡ 37
unfolding records_on_literals
owner_classes = refl

own_reach : IsReachOf owner_suite 1 (record { settled = true; classes = 1 ∷ 2 ∷ 3 ∷ 4 ∷ [] })
own_reach = record { settled = sym one_settled; ascending = refl; classes = λ j. (there j, back j) }
  where
    given : (c : ℕ) → 32 ≤ c → c ≤ 35 → IsGiven owner_suite c
    given c lo hi = (lo, (let e = owner_classes in omega arith))

    of_list : {x y z w a b c d : List ℕ} → x ∷ y ∷ z ∷ w ∷ [] ≡ a ∷ b ∷ c ∷ d ∷ [] → (x ≡ a) × (y ≡ b) × (z ≡ c) × (w ≡ d)
    of_list e = ((cc), (cc), (cc), (cc))

    listed : (c d : ℕ) {x : List ℕ} → (class_at owner_suite c).mentions ≡ x → Member d x → Member d (class_at owner_suite c).mentions
    listed c d e m = subst (λ (z : List ℕ). Member d z) (sym e) m

    at_33 : Reaches owner_suite 1 33
    at_33 = own (given 33 (omega arith) (omega arith))

    at_34 : Reaches owner_suite 1 34
    at_34 = mentioned at_33 (listed 33 34 (of_list owner_mentions).1 (inl refl)) (given 34 (omega arith) (omega arith))

    there : (j : ℕ) → Member j (1 ∷ 2 ∷ 3 ∷ 4 ∷ []) → Reaches owner_suite 1 (j + 31)
    there j (inl e) = rw e (touched 0 (subst (λ (z : List Location). Member (place.Head 0) z) (sym one_places) (inl refl)) (ap inner_class one_kind) (given 32 (omega arith) (omega arith)))
    there j (inr (inl e)) = rw e at_33
    there j (inr (inr (inl e))) = rw e at_34
    there j (inr (inr (inr (inl e)))) = rw e (mentioned at_34 (listed 34 35 (of_list owner_mentions).2 (inr (inl refl))) (given 35 (omega arith) (omega arith)))
    there j (inr (inr (inr (inr n)))) = absurd n

    head_of : (o : ℕ) → Member (place.Head o) (place.Head 0 ∷ place.Field 0 2 ∷ place.Field 0 3 ∷ []) → o ≡ 0
    head_of o (inl e) = cc
    head_of o (inr (inl e)) = absurd (cc)
    head_of o (inr (inr (inl e))) = absurd (cc)
    head_of o (inr (inr (inr n))) = absurd n

    head_class : (o c : ℕ) → Member (place.Head o) (places_in (touches_of owner_suite) 1) → inner_class (kinds_of owner_suite 1 o) ≡ Some c → c ≤ 35
    head_class o c m i =
        let z = head_of o (subst (λ (x : List Location). Member (place.Head o) x) one_places m) in
        let k : inner_class (kind.Class 32) ≡ Some c = ap inner_class (sym one_kind) ∙ subst (λ (x : ℕ). inner_class (kinds_of owner_suite 1 x) ≡ Some c) z i in
        let n : 32 ≡ c = cc in
        omega arith

    two : (d a b : ℕ) → a ≤ 35 → b ≤ 35 → Member d (a ∷ b ∷ []) → d ≤ 35
    two d a b x y (inl e) = omega arith
    two d a b x y (inr (inl e)) = omega arith
    two d a b x y (inr (inr n)) = absurd n

    of_class : (c k d : ℕ) {x : List ℕ} → c ≡ k → (class_at owner_suite k).mentions ≡ x → Member d (class_at owner_suite c).mentions → Member d x
    of_class c k d e f m = subst (λ (z : List ℕ). Member d z) (ap (λ (z : ℕ). (class_at owner_suite z).mentions) e ∙ f) m

    mentions_of : (c d : ℕ) → 32 ≤ c → c ≤ 35 → Member d (class_at owner_suite c).mentions → d ≤ 35
    mentions_of c d lo hi m = elim (cases_eq c 33) [
      | inl e ↦ two d 34 31 (omega arith) (omega arith) (of_class c 33 d e (of_list owner_mentions).1 m)
      | inr a ↦ elim (cases_eq c 34) [
        | inl e ↦ two d 33 35 (omega arith) (omega arith) (of_class c 34 d e (of_list owner_mentions).2 m)
        | inr b ↦ elim (cases_eq c 32) [
          | inl e ↦ absurd (of_class c 32 d e (of_list owner_mentions).0 m)
          | inr f ↦ absurd (of_class c 35 d (omega arith) (of_list owner_mentions).3 m)
        ]
      ]
    ]

    within : {c : ℕ} → Reaches owner_suite 1 c → (32 ≤ c) × (c ≤ 35)
    within (own g) = (omega arith, omega arith)
    within (touched o m i g) = (g.0, head_class o _ m i)
    within (mentioned r m g) = let w = within r in (g.0, mentions_of _ _ w.0 w.1 m)

    back : (j : ℕ) → Reaches owner_suite 1 (j + 31) → Member j (1 ∷ 2 ∷ 3 ∷ 4 ∷ [])
    back j r = let w = within r in let lo = w.0 in let hi = w.1 in elim (cases_eq j 1) [
      | inl e ↦ inl e
      | inr a ↦ elim (cases_eq j 2) [
        | inl e ↦ inr (inl e)
        | inr b ↦ elim (cases_eq j 3) [ inl e ↦ inr (inr (inl e)) | inr d ↦ inr (inr (inr (inl (omega arith)))) ]
      ]
    ]

-- ten statics that one test writes and the next one reads: eight are shown of the edge, and the edge counts all
abbrev ten_touches : Touches
ten_touches t = map (λ f. record { write = nat_eq t 1; location = place.Static (2 + f); gave = None }) (0 ∷ 1 ∷ 2 ∷ 3 ∷ 4 ∷ 5 ∷ 6 ∷ 7 ∷ 8 ∷ 9 ∷ [])

abbrev ten_suite : Program
ten_suite = program (class (codes "T") [] [] ∷ []) (map (λ f. static_int 32 ((97 + f) ∷ [])) (0 ∷ 1 ∷ 2 ∷ 3 ∷ 4 ∷ 5 ∷ 6 ∷ 7 ∷ 8 ∷ 9 ∷ [])) [] [] (test 32 102 ∷ test 32 103 ∷ [])

abbrev nobody : ℕ → ℕ × ℕ
nobody o = (0, 0)

ten_edges : edges_in ten_suite ten_touches nobody ≡ one_two Raw 10 (codes "static T.a") ∷ []
unfolding records_on_literals
ten_edges = refl

ten_places : (x : Shown) → IsShownIn ten_suite ten_touches nobody (one_two Raw 10 (codes "static T.a")) x → length x.places ≡ 8
unfolding records_on_literals
ten_places x s = sym (length-paired (IsPlaceIn ten_suite nobody (ten_touches 2)) s)

first_place : (x : Place) (xs : List Place) → PairedList (IsPlaceIn ten_suite nobody (ten_touches 2)) (take 8 (conflict_places_in ten_touches Raw 1 2)) (x ∷ xs) → (x.at ≡ codes "static T.a") × (x.walk ≡ [])
unfolding records_on_literals
first_place x xs (one_more r rs) = (r.at, r.walk)
