-- What a run of the suite by its touches says of the suite's own order: whose an object is, by which reads a test came to
-- it, and of what kind it is.
use Rattle.std.proofs.Common.{◌≡◌, ◌⊎◌, ℕ, zero, suc, ◌+◌, ◌-◌, ◌<◌, ◌≤◌, true, not, List, [], ◌∷◌, map, length, Some, refl, sym, ◌∙◌, ap, subst, inl, inr, arith}
use Rattle.std.specs.List.{range_with_len}
use Rattle.std.proofs.lemmas.Bool.{and_parts}
use Rattle.jvm_model.specs.declared.values.{Head.Head, Kind.Kind, Location.Location, Touch.Touch}
use Rattle.jvm_model.specs.declared.values.Location.TheVariants as place
use Rattle.jvm_model.specs.declared.program.Program.{Program}
use Rattle.jvm_model.specs.State.{test_at}
use Rattle.jvm_model.specs.World.{World, size, same, place_of}
use Rattle.jvm_model.specs.Suite.{Given, runs, all_tests}
use Rattle.order_law.specs.declared.edges.{EdgeKind.EdgeKind, EdgeKind.TheVariants.Raw, EdgeKind.TheVariants.Waw, EdgeKind.TheVariants.War}
use Rattle.order_law.specs.declared.records.Reach.{Reach as ReachOf}
use Rattle.order_law.specs.{Conflicts.Tests, Conflicts.Member, Walk.Walk}
use Rattle.order_law.specs.Histories.{Touches, touches_of, writes_in, exposed_in, IsTestNumber}
use Rattle.order_law.specs.OwnRecord.{conflicts, first_places, places_in, conflict_places_in, made_by, owner, owner_in}
use Rattle.order_law.specs.Reach.{ReachesIn, own, touched, mentioned, IsReachIn, kinds_of, inner_class}
use Rattle.order_law.proofs.{OwnRecord.filter_both, OwnRecord.touched as touched_place, WalksThere.walk_law}
use Rattle.type_frames.specs.Typing.{IsTyped}
use Rattle.access_tags.specs.Ran.{size_in, made_in, owner_by, HaveWalks, kinds_in}
use Rattle.detect_run.proofs.Along.{test_gives, over_at, size_at, stands_after}
use Rattle.detect_run.proofs.{InOrder.world_at, InOrder.of_run, Sizes.stands_at}

-- members of lists
first_from : (ls : List Location) (L : Location) → Member L (first_places ls) → Member L ls
first_from [] L i = absurd i
first_from (M ∷ ls) L i = elim i [ inl e ↦ inl e | inr j ↦ inr (first_from ls L (filter_both (λ N. not (same M N)) (first_places ls) L j).0) ]

located_from : (ts : List Touch) (L : Location) → Member L (map (λ (x : Touch). x.location) ts) → (y : Touch) × Member y ts × (L ≡ y.location)
located_from [] L i = absurd i
located_from (x ∷ ts) L i = elim i [ inl e ↦ (x, inl refl, e) | inr j ↦ let r = located_from ts L j in (r.0, inr r.1, r.2) ]

-- both tests of a conflict touch the location
earlier_touched : (W E : Tests) (k : EdgeKind) (u t : ℕ) (L : Location) → conflicts W E k u t L ≡ true → (W u L ≡ true) ⊎ (E u L ≡ true)
earlier_touched W E Raw u t L e = inl (and_parts (W u L) _ (and_parts (E t L) _ e).1).0
earlier_touched W E Waw u t L e = inl (and_parts (W u L) _ e).0
earlier_touched W E War u t L e = inr (and_parts (E u L) _ (and_parts (W t L) _ e).1).0

conflict_parts : (T : Touches) (k : EdgeKind) (u t : ℕ) (L : Location) → Member L (conflict_places_in T k u t) → Member L (places_in T t) × (conflicts (writes_in T) (exposed_in T) k u t L ≡ true)
unfolding conflict_places_in
conflict_parts T k u t L i = filter_both (λ L. conflicts (writes_in T) (exposed_in T) k u t L) (places_in T t) L i

module _ (p : Program) (ty : IsTyped p) (xs : List Given) (ran : runs p (all_tests p) ≡ Some xs) where
  -- each test makes as many objects
  made_alike : (t : ℕ) → IsTestNumber p t → made_in (touches_of p) t ≡ made_by p t
  made_alike zero h = let a = h.0 in absurd (omega arith)
  made_alike (suc i) h =
      let b = h.1 in
      let e = size_at p ty xs ran (suc i) (omega arith) in
      let f = size_at p ty xs ran i (omega arith) in
      let z : suc i - 1 ≡ i = omega arith in
      ap (λ (k : ℕ). size_in (touches_of p) (suc i) - size_in (touches_of p) k) z ∙ ap (λ (n : ℕ). n - size_in (touches_of p) i) e ∙ ap (λ (n : ℕ). size (world_at p (suc i)) - n) f

  map_alike : (n a : ℕ) → 0 < a → a + n ≤ length p.tests + 1 → map (λ t. made_in (touches_of p) t) (range_with_len a n) ≡ map (λ t. made_by p t) (range_with_len a n)
  map_alike zero a h k = refl
  map_alike (suc n) a h k =
      ap (λ (m : ℕ). m ∷ map (λ t. made_in (touches_of p) t) (range_with_len (a + 1) n)) (made_alike a (h, omega arith))
      ∙ ap (λ (ms : List ℕ). made_by p a ∷ ms) (map_alike n (a + 1) (omega arith) (omega arith))

  -- so an object is of the same test
  pub owners : (o : ℕ) → owner_by p (touches_of p) o ≡ owner p o
  owners o = ap (λ (ms : List ℕ). owner_in ms o) (map_alike (length p.tests) 1 (omega arith) (omega arith))

  -- a test came to each object at a place of conflict by a walk
  pub have_walks : HaveWalks p (touches_of p)
  have_walks k zero t o L low lt high i e = let a = low.0 in absurd (omega arith)
  have_walks k (suc u) zero o L low lt high i e = absurd (omega arith)
  have_walks k (suc u) (suc t) o L low lt high i e =
      let T = touches_of p in
      let hi = high.1 in
      let c = conflict_parts T k (suc u) (suc t) L i in
      let y = located_from (T (suc u)) L (touched_place (T (suc u)) L (earlier_touched (writes_in T) (exposed_in T) k (suc u) (suc t) L c.1)) in
      let stood = stands_at (size (world_at p (suc u))) (T (suc u)) y.0 o (stands_after p ty xs ran u (omega arith)) y.1 (ap place_of (sym y.2) ∙ e) in
      let more = (over_at p ty xs ran (suc u) t (omega arith) (omega arith)).sizes in
      let z = located_from (T (suc t)) L (first_from _ L c.0) in
      let a = test_gives p ty xs ran t (omega arith) in
      let f = (of_run p t a.given a.gives).touches in
      let w = walk_law p (world_at p t) (suc t) (test_at p (suc t)).budget o a.given z.0 ty.linked a.gives (omega arith) (subst (Member z.0) f z.1) (ap place_of (sym z.2) ∙ e) in
      (w.0, subst (λ (ts : List Touch). Walk ts o w.0) (sym f) w.1)

  -- the kind of a touched object stays
  kind_stays : (w : World) → w ≡ world_at p (length p.tests) → (t o : ℕ) → IsTestNumber p t → Member (place.Head o) (places_in (touches_of p) t) → kinds_in w t o ≡ kinds_of p t o
  kind_stays w e zero o h i = let a = h.0 in absurd (omega arith)
  kind_stays w e (suc t) o h i =
      let hi = h.1 in
      let z = located_from (touches_of p (suc t)) (place.Head o) (first_from _ (place.Head o) i) in
      let stood = stands_at (size (world_at p (suc t))) (touches_of p (suc t)) z.0 o (stands_after p ty xs ran t (omega arith)) z.1 (ap place_of (sym z.2)) in
      ap (λ (v : World). kinds_in v (suc t) o) e ∙ ap (λ (x : Head). x.kind) ((over_at p ty xs ran (suc t) (length p.tests) hi (omega arith)).heads o stood)

  reach_to : (kinds other : ℕ → ℕ → Kind) (t : ℕ) → ((o : ℕ) → Member (place.Head o) (places_in (touches_of p) t) → kinds t o ≡ other t o) → {c : ℕ} → ReachesIn p (touches_of p) kinds t c → ReachesIn p (touches_of p) other t c
  reach_to kinds other t h (own g) = own g
  reach_to kinds other t h (touched o m i g) = touched o m (ap inner_class (sym (h o m)) ∙ i) g
  reach_to kinds other t h (mentioned r m g) = mentioned (reach_to kinds other t h r) m g

  pub reach_own : (w : World) → w ≡ world_at p (length p.tests) → (t : ℕ) (r : ReachOf) → IsTestNumber p t → IsReachIn p (touches_of p) (kinds_in w) t r → IsReachIn p (touches_of p) (kinds_of p) t r
  reach_own w e t r h a =
      let stays = kind_stays w e t in
      record {
        settled = a.settled;
        ascending = a.ascending;
        classes = λ j. (λ m. reach_to (kinds_in w) (kinds_of p) t (λ o i. stays o h i) ((a.classes j).0 m), λ m. (a.classes j).1 (reach_to (kinds_of p) (kinds_in w) t (λ o i. sym (stays o h i)) m));
      }
