-- Lists, chains and histories by the edges of small records: each definition gives what it should, and refuses what it should.
use Rattle.std.proofs.Common.{◌≡◌, ◌↔◌, ℕ, zero, suc, ◌<◌, List, [], ◌∷◌, ◌++◌, map, replicate, Bool, true, false, refl, sym, subst, inl, inr, arith, Some, None, nat_eq, cond}
use Rattle.std.specs.Prelude.{codes}
use Rattle.std.proofs.lemmas.Bool.{true≢false}
use Rattle.jvm_model.specs.{declared.outcome.Outcome.Outcome, declared.program.Program.Program, Suite.is_detected, Suite.all_tests, Linked.Linked}
use Rattle.jvm_model.proofs.Examples.{Parts.passed, Parts.line, Suites.counter_suite, Suites.return_suite, Linked.return_linked}
use Rattle.order_law.specs.declared.edges.{Edge.Edge, EdgeKind.EdgeKind, EdgeKind.TheVariants.Raw, EdgeKind.TheVariants.Waw, EdgeKind.TheVariants.War}
use Rattle.order_law.specs.Conflicts.{Member, HasEdge, Before, Lawful, Closure, selected, source, Joined, itself, forth, back}
use Rattle.order_law.specs.{OrderFault.twice, OrderFault.missing_writer, OrderFault.inverted, OwnRecord.edges_of}
use Rattle.order_law.specs.RecordForm.{is_record_form, is_reach, are_chains}
use Rattle.order_law.specs.Plan.{chain_at, Ascending, AreChainsOf, AreListedChainsOf, Event, claim, post, claims, Posted, NextOf, Legal, IsComplete}
use Rattle.order_law.proofs.{OnLiterals.records_on_literals, Members.joined_within, Posts.ascending_from}
use Rattle.order_law.proofs.OrderFaults.{order_fault, lawful_list, before-true, before-from}
use Rattle.order_law.proofs.Examples.Records.{edge_at, triple, links}

-- read before write, and the suite of three writers and a reader
abbrev read_write : List Edge
read_write = edge_at War 1 2 (codes "static P.n") ∷ []

faults_of_orders : map (λ l. order_fault read_write l) ((2 ∷ 1 ∷ []) ∷ (1 ∷ 2 ∷ []) ∷ (2 ∷ []) ∷ []) ≡ Some (inverted 1 2) ∷ None ∷ None ∷ []
faults_of_orders = refl

faults_of_triple : map (λ l. order_fault triple l) ((3 ∷ 1 ∷ 4 ∷ []) ∷ (4 ∷ []) ∷ (1 ∷ 1 ∷ []) ∷ (1 ∷ 3 ∷ 4 ∷ []) ∷ []) ≡
    Some (inverted 1 3) ∷ Some (missing_writer 4 3) ∷ Some (twice 1) ∷ None ∷ []
faults_of_triple = refl

-- the first repeated test, the first test that lacks a writer with its least one, and the earliest test behind the first
abbrev several : List Edge
several = edge_at Raw 1 4 [] ∷ edge_at Raw 2 4 [] ∷ edge_at Raw 3 5 [] ∷ []

faults_of_several : map (λ l. order_fault several l) ((4 ∷ 5 ∷ []) ∷ (5 ∷ 4 ∷ []) ∷ (2 ∷ 1 ∷ 2 ∷ 1 ∷ []) ∷ (1 ∷ 4 ∷ 2 ∷ []) ∷ (2 ∷ 1 ∷ 5 ∷ 4 ∷ 3 ∷ []) ∷ (4 ∷ 1 ∷ 4 ∷ []) ∷ []) ≡
    Some (missing_writer 4 1) ∷ Some (missing_writer 5 3) ∷ Some (twice 2) ∷ Some (inverted 2 4) ∷ Some (inverted 3 5) ∷ Some (twice 4) ∷ []
faults_of_several = refl

-- of two that stand earlier though they are later the first is named
earliest : order_fault (edge_at Waw 1 2 [] ∷ edge_at Waw 1 3 [] ∷ []) (3 ∷ 2 ∷ 1 ∷ []) ≡ Some (inverted 1 3)
earliest = refl

-- the closure of a selection: the reader and the last writer alone
abbrev fourth : ℕ → Type 0
fourth t = t ≡ 4

closed_triple : (t : ℕ) → Closure triple fourth t ↔ Member t (3 ∷ 4 ∷ [])
closed_triple t = (λ c. within c, λ m. elim m [ inl e ↦ rw e (source (selected refl) (inr (inr (inl (refl, refl, refl))))) | inr k ↦ elim k [ inl e ↦ selected e | inr n ↦ absurd n ] ])
  where
    raw_of : (u t : ℕ) → HasEdge triple Raw u t → Member u (3 ∷ 4 ∷ [])
    raw_of u t h = elim h [ inl e ↦ absurd (let z = e.0 in cc) | inr k ↦ elim k [ inl e ↦ absurd (let z = e.0 in cc) | inr l ↦ elim l [ inl e ↦ inl (sym e.1) | inr n ↦ absurd n ] ] ]

    within : {t : ℕ} → Closure triple fourth t → Member t (3 ∷ 4 ∷ [])
    within (selected e) = inr (inl e)
    within (source c h) = raw_of _ _ h

-- the chains of the suite of two statics: all four tests, through the war edge too
abbrev four : List ℕ
four = 1 ∷ 2 ∷ 3 ∷ 4 ∷ []

abbrev Four : ℕ → Type 0
Four t = Member t four

links_chains : AreListedChainsOf links Four (four ∷ [])
links_chains = record {
  chains = record {
    within = λ i t m. only i t m;
    covered = λ t m. (0, m);
    joined = λ i t u m j. first i t u m (joined_within j);
    least = λ i t u m k. from_one t u (to_one t (only i t m)) (only i u k);
    apart = λ i j t m k. zeros i j t m k;
    ascending = λ i. rising i;
  };
  filled = λ i h. (let e : i ≡ 0 = omega arith in (1, rw e (inl refl)));
  by_first = λ i j t u l m h a b. absurd (past j u m (omega arith) b);
}
  where
    only : (i t : ℕ) → Member t (chain_at (four ∷ []) i) → Four t
    only zero t m = m
    only (suc i) t m = absurd m

    first : (i t u : ℕ) → Member t (chain_at (four ∷ []) i) → Four u → Member u (chain_at (four ∷ []) i)
    first zero t u m k = k
    first (suc i) t u m k = absurd m

    zeros : (i j t : ℕ) → Member t (chain_at (four ∷ []) i) → Member t (chain_at (four ∷ []) j) → i ≡ j
    zeros zero zero t m k = refl
    zeros zero (suc j) t m k = absurd k
    zeros (suc i) j t m k = absurd m

    past : (j u : ℕ) (m : List ℕ) → 0 < j → chain_at (four ∷ []) j ≡ u ∷ m → ⊥
    past zero u m h e = absurd (omega arith)
    past (suc j) u m h e = absurd (cc)

    is_first : Four 1
    is_first = inl refl

    is_later : (t : ℕ) → Member t (2 ∷ 3 ∷ 4 ∷ []) → Before links 1 t
    is_later t (inl e) = rw e (before-true links 1 2 refl)
    is_later t (inr (inl e)) = rw e (before-true links 1 3 refl)
    is_later t (inr (inr (inl e))) = rw e (before-true links 1 4 refl)
    is_later t (inr (inr (inr n))) = absurd n

    to_one : (t : ℕ) → Four t → Joined links Four t 1
    to_one t (inl e) = rw e (itself is_first)
    to_one t (inr m) = back (itself (inr m)) is_first (is_later t m)

    from_one : (t u : ℕ) → Joined links Four t 1 → Four u → Joined links Four t u
    from_one t u j (inl e) = rw e j
    from_one t u j (inr m) = forth j (inr m) (is_later u m)

    rising : (i : ℕ) → Ascending (chain_at (four ∷ []) i)
    rising zero = ascending_from four refl
    rising (suc i) = tt

-- chains that aren't: apart where the war edge joins them, in another order, with an empty one, and joined without an edge
not_split : AreChainsOf links Four ((1 ∷ 2 ∷ []) ∷ (3 ∷ 4 ∷ []) ∷ []) → ⊥
not_split cs = elim (cs.joined 0 2 3 (inr (inl refl)) (forth (itself (inr (inl refl))) (inr (inr (inl refl))) (before-true links 2 3 refl))) [ inl e ↦ absurd (cc) | inr k ↦ elim k [ inl e ↦ absurd (cc) | inr n ↦ absurd n ] ]

abbrev Two : ℕ → Type 0
Two t = Member t (1 ∷ 2 ∷ [])

not_sorted : AreListedChainsOf [] Two ((2 ∷ []) ∷ (1 ∷ []) ∷ []) → ⊥
not_sorted cs = absurd (let h = cs.by_first 0 1 2 1 [] [] (omega arith) refl refl in omega arith)

not_filled : AreListedChainsOf [] Two ((1 ∷ []) ∷ [] ∷ (2 ∷ []) ∷ []) → ⊥
not_filled cs = (cs.filled 1 (omega arith)).1

joined_same : {t u : ℕ} → Joined [] Two t u → t ≡ u
joined_same (itself s) = refl
joined_same (forth j s b) = absurd (true≢false (sym (before-from [] b)))
joined_same (back j s b) = absurd (true≢false (sym (before-from [] b)))

not_one : AreChainsOf [] Two ((1 ∷ 2 ∷ []) ∷ []) → ⊥
not_one cs = absurd (let e = joined_same (cs.least 0 1 2 (inl refl) (inr (inl refl))) in cc)

-- the form of records
abbrev at_text : List ℕ → Edge
at_text x = record { earlier = 1; later = 2; kind = Raw; count = 1; first = x }

abbrev at_count : ℕ → Edge
at_count n = record { earlier = 1; later = 2; kind = Raw; count = n; first = codes "a" }

abbrev with_edge : Edge → Bool
with_edge e = is_record_form (3 ∷ 3 ∷ 3 ∷ []) (e ∷ [])

edge_forms : map with_edge (at_text (codes "a") ∷ at_text [] ∷ at_text (replicate 203 65) ∷ at_text (replicate 204 65) ∷ at_text (31 ∷ []) ∷ at_text (127 ∷ []) ∷ at_count 0 ∷ at_count 268435456 ∷ at_count 268435457
    ∷ edge_at Raw 0 1 (codes "a") ∷ edge_at Raw 2 2 (codes "a") ∷ edge_at Raw 2 1 (codes "a") ∷ edge_at Raw 1 3 (codes "a") ∷ edge_at Raw 1 4 (codes "a") ∷ [])
    ≡ true ∷ false ∷ true ∷ false ∷ false ∷ false ∷ false ∷ true ∷ false ∷ false ∷ false ∷ false ∷ true ∷ false ∷ []
unfolding is_record_form
edge_forms = refl

abbrev ordered : EdgeKind → ℕ → ℕ → EdgeKind → ℕ → ℕ → Bool
ordered k u t l v s = is_record_form (3 ∷ 3 ∷ 3 ∷ 3 ∷ []) (edge_at k u t (codes "a") ∷ edge_at l v s (codes "a") ∷ [])

orders : ordered Raw 1 2 Raw 1 3 ∷ ordered Raw 1 3 Raw 1 2 ∷ ordered Waw 1 3 Raw 2 3 ∷ ordered Raw 2 3 Raw 1 3 ∷ ordered Raw 2 3 Raw 1 4 ∷ ordered Raw 1 4 Raw 2 3 ∷ ordered Raw 1 2 Waw 1 2 ∷ ordered Waw 1 2 War 1 2 ∷ ordered War 1 2 Waw 1 2 ∷ ordered Raw 1 2 Raw 1 2 ∷ []
    ≡ true ∷ false ∷ true ∷ false ∷ true ∷ false ∷ true ∷ true ∷ false ∷ false ∷ []
unfolding is_record_form
orders = refl

unit_forms : map (λ u. is_record_form u []) ((67108864 ∷ []) ∷ (67108865 ∷ []) ∷ replicate 1024 3 ∷ replicate 1025 3 ∷ []) ≡ true ∷ false ∷ true ∷ false ∷ []
unfolding is_record_form
unit_forms = refl

reach_forms : map (λ cs. is_reach 3 (record { settled = true; classes = cs })) ((1 ∷ 3 ∷ []) ∷ [] ∷ (0 ∷ 1 ∷ []) ∷ (1 ∷ 4 ∷ []) ∷ (2 ∷ 1 ∷ []) ∷ (1 ∷ 1 ∷ []) ∷ []) ≡ true ∷ false ∷ false ∷ false ∷ false ∷ false ∷ []
reach_forms = refl

chain_forms : map are_chains (((1 ∷ 3 ∷ []) ∷ (2 ∷ []) ∷ []) ∷ ((1 ∷ []) ∷ [] ∷ []) ∷ ((1 ∷ 2 ∷ []) ∷ (2 ∷ []) ∷ []) ∷ ((1 ∷ 1 ∷ []) ∷ []) ∷ []) ≡ true ∷ false ∷ false ∷ false ∷ []
unfolding are_chains
chain_forms = refl

-- a worker that runs a suite of two tests
abbrev both : List (List ℕ)
both = (1 ∷ 2 ∷ []) ∷ []

abbrev claimed : List Event
claimed = claim 1 0 ∷ []

abbrev half : List Event
half = post 1 [] 1 (passed [] 6) ∷ claimed

abbrev full : List Event
full = post 1 (1 ∷ []) 2 (passed (line (codes "5")) 8) ∷ half

claimed_legal : Legal counter_suite both 1 claimed
claimed_legal = ((omega arith, omega arith, omega arith, (λ v m. m), (λ i t m. absurd m)), tt)

half_legal : Legal counter_suite both 1 half
unfolding records_on_literals
half_legal = ((0, [], refl, record { front = []; rest = 2 ∷ []; split = refl; posted = λ x m. absurd m; open_yet = λ q. q.1 }, refl, refl), claimed_legal)

second_open : (w : ℕ) (b : Bool) → Member {A = ℕ} 2 (cond b (1 ∷ []) []) → ⊥
second_open w true m = elim m [ inl e ↦ absurd (cc) | inr n ↦ n ]
second_open w false m = m

full_legal : Legal counter_suite both 1 full
unfolding records_on_literals
full_legal = ((0, [], refl, record { front = 1 ∷ []; rest = []; split = refl; posted = λ x m. elim m [ inl e ↦ rw e (1, inl refl) | inr n ↦ absurd n ]; open_yet = λ q. second_open q.0 (nat_eq 1 q.0) q.1 }, refl, refl), half_legal)

full_complete : IsComplete both full
full_complete zero t m = elim m [ inl e ↦ rw e (1, inr (inl refl)) | inr k ↦ elim k [ inl e ↦ rw e (1, inl refl) | inr n ↦ absurd n ] ]
full_complete (suc i) t m = absurd m

half_incomplete : IsComplete both half → ⊥
half_incomplete c = let q = c 0 2 (inr (inl refl)) in second_open q.0 (nat_eq 1 q.0) q.1

-- a post out of turn, of another list, and a chain that is claimed again, aren't legal
not_next : (o : Outcome) → Legal counter_suite both 1 (post 1 [] 2 o ∷ claimed) → ⊥
not_next o l = let m = l.0 in out_of_turn m.1 m.2 m.3
  where
    starts : (i : ℕ) (rest : List ℕ) → claims claimed 1 ≡ i ∷ rest → i ≡ 0
    starts i rest e = cc

    blocked : (f r : List ℕ) → 1 ∷ 2 ∷ [] ≡ f ++ (2 ∷ r) → ((x : ℕ) → Member x f → Posted claimed x) → ⊥
    blocked [] r e h = absurd (cc)
    blocked (x ∷ f) r e h = (h x (inl refl)).1

    out_of_turn : {i : ℕ} (rest : List ℕ) → claims claimed 1 ≡ i ∷ rest → NextOf claimed (chain_at both i) 2 → ⊥
    out_of_turn {i} rest e n = blocked n.front n.rest (subst (λ (z : ℕ). chain_at both z ≡ n.front ++ (2 ∷ n.rest)) (starts i rest e) n.split) n.posted

not_its_list : (o : Outcome) → Legal counter_suite both 1 (post 1 (2 ∷ []) 1 o ∷ claimed) → ⊥
not_its_list o l = absurd (let e = l.0.4 in cc)

not_again : Legal counter_suite both 2 (claim 2 0 ∷ claimed) → ⊥
not_again l = l.0.3 1 (inl refl)

-- a chain isn't claimed by a worker whose last one is open yet
not_open : Legal counter_suite ((1 ∷ []) ∷ (2 ∷ []) ∷ []) 1 (claim 1 1 ∷ claimed) → ⊥
not_open l = (l.0.4 0 1 (inl refl) (inl refl)).1

-- A linked suite that is detected, with a lawful list of its tests and a legal complete history of its chains: what the laws
-- of order ask is met.
return_detected : is_detected return_suite ≡ true
unfolding records_on_literals
return_detected = refl

return_edges : edges_of return_suite ≡ []
unfolding records_on_literals
return_edges = refl

return_lawful : Lawful (edges_of return_suite) (all_tests return_suite)
return_lawful = lawful_list (edges_of return_suite) (1 ∷ []) (rw return_edges refl)

abbrev one_chain : List (List ℕ)
one_chain = (1 ∷ []) ∷ []

return_history : Legal return_suite one_chain 1 (post 1 [] 1 (passed [] 3) ∷ claimed)
unfolding records_on_literals
return_history = ((0, [], refl, record { front = []; rest = []; split = refl; posted = λ x m. absurd m; open_yet = λ q. q.1 }, refl, refl), ((omega arith, omega arith, omega arith, (λ v m. m), (λ i t m. absurd m)), tt))

return_complete : IsComplete one_chain (post 1 [] 1 (passed [] 3) ∷ claimed)
return_complete zero t m = elim m [ inl e ↦ rw e (1, inl refl) | inr n ↦ absurd n ]
return_complete (suc i) t m = absurd m

record IsMet (p : Program) (C : List (List ℕ)) (es : List Event) : Type 0 where
  linked : Linked p
  detected : is_detected p ≡ true
  lawful : Lawful (edges_of p) (all_tests p)
  legal : Legal p C 1 es
  complete : IsComplete C es

premises_met : IsMet return_suite one_chain (post 1 [] 1 (passed [] 3) ∷ claimed)
premises_met = record { linked = return_linked; detected = return_detected; lawful = return_lawful; legal = return_history; complete = return_complete }
