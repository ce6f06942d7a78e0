-- What a memory with tags follows after another name came, and after another test began.
use Rattle.std.proofs.Common.{◌≡◌, ◌⊎◌, ℕ, zero, suc, ◌+◌, ◌-◌, ◌<◌, Bool, true, false, not, ◌||◌, List, [], ◌∷◌, ◌++◌, length, get_or, slice_get, map, refl, sym, ◌∙◌, ap, subst, arith, inl, inr, Option, None, Some, Result, OnOk, length-append, append_assoc}
use Rattle.std.specs.List.{list_all, list_any}
use Rattle.std.proofs.{Math.Bool.or-true, Math.Seq.get_or-append_seam}
use Rattle.std.proofs.lemmas.{Bool.cases_Bool, Bool.cases_lt, Result.on_ok_weaker}
use Rattle.std.proofs.lemmas.List.{append-nil, get_or_append_left, length-map, same_from_push}
use Rattle.std.proofs.lemmas.Option.{get_or_from_slice_get, slice_get-get_or, slice_get_within}
use Rattle.jvm_model.specs.declared.program.Program.{Program}
use Rattle.jvm_model.specs.declared.values.{Location.Location, Touch.Touch, InitState.TheVariants.Idle, Kind.Kind}
use Rattle.jvm_model.specs.declared.values.Location.TheVariants as place
use Rattle.jvm_model.specs.World.{World, Object, same, size}
use Rattle.sim_store.specs.declared.store.Part.{Part}
use Rattle.sim_store.specs.declared.store.Part.TheVariants as sort
use Rattle.jvm_model.proofs.Locations.{same_true}
use Rattle.order_law.specs.{Histories.Touches, Exposed.exposed}
use Rattle.vm_mem.specs.{Stores.place_in, Stores.put_in, Kept.Kept}
use Rattle.vm_mem.specs.Trace.{Trace, Extends, next_test, empty_trace}
use Rattle.jvm_model.specs.{Builtin.out_field, Suite.opening}
use Rattle.access_tags.specs.{HeadMarks.touches_class, HeadsStand.HeadsStand, HasDiscovered.HasDiscovered, Paths.HaveRowsWalks, Tag.places}
use Rattle.access_tags.proofs.Following.{NotesOne, after_put, after_read}
use Rattle.access_tags.specs.declared.ended.Ended.{Ended}
use Rattle.access_tags.specs.declared.heads.Heads.{Heads}
use Rattle.access_tags.specs.declared.numbers.Numbers.{Numbers}
use Rattle.access_tags.specs.declared.rows.Row.{Row}
use Rattle.access_tags.proofs.{FirstReads.meet_next, FirstReads.meet_ungiven, FoundAll.trace_test, Grown.no_tag_past}
use Rattle.access_tags.proofs.{HeadNotes.heads_next, HeadNotes.heads_quiet, More.more_names_stand, Spread.length-states, Spread.length-statics}
use Rattle.access_tags.specs.declared.conflict.LocationKey.TheVariants as spot
use Rattle.access_tags.specs.declared.memory.TaggedMemory.{TaggedMemory}
use Rattle.access_tags.specs.declared.tags.Tags.{Tags}
use Rattle.access_tags.specs.Followed.{Follows, HaveSameRoom, IsEnded, IsNamed, IsNumbered, numbering, keeps_walks}
use Rattle.access_tags.specs.Numbering.{Numbering, IsAt, IsPlaced, is_named, located, position, with_cells, with_names}
use Rattle.access_tags.specs.Ran.{size_after, size_in, trace_to, touched_by}
use Rattle.access_tags.specs.Rows.{edges_at, shown_by, with_places}
use Rattle.access_tags.specs.{AccessLogs.touched_in, Shelf.count, Shelf.tag_in, Stands.Stands}
use Rattle.access_tags.specs.Worlds.{bases, cells_of, states_of, statics_of, width}
use Rattle.access_tags.proofs.Marks.{same_self}

-- a name stands where the search ended, or goes last
pub named_found : (names : List Location) (L : Location) (k : ℕ) → k ≡ position names L → k < length names → IsNamed names L k
named_found names L k e h = let f = found names (rw e at h) in record { at = sym e; here = rw e f.0; there = f.1 }
  where
    found : (ls : List Location) → position ls L < length ls → (get_or ls (position ls L) (place.Static 0) ≡ L) × (list_any (same L) ls ≡ true)
    found [] h = absurd (omega arith)
    found (M ∷ ls) h = elim (cases_Bool (same L M)) [
      | inl e ↦ rw e (sym (same_true L M e), refl)
      | inr e ↦ let l : position ls L < length ls = let z = rw e at h in omega arith in let f = found ls l in rw e (f.0, f.1)
    ]

pub named_last : (names : List Location) (L : Location) (k : ℕ) → k ≡ position names L → k ≡ length names → IsNamed (names ++ L ∷ []) L k
named_last names L k e h = record {
  at = last names (sym e ∙ h) ∙ sym h;
  here = rw h (get_or-append_seam names L [] (place.Static 0));
  there = there names;
}
  where
    last : (ls : List Location) → position ls L ≡ length ls → position (ls ++ L ∷ []) L ≡ length ls
    last [] q = rw (same_self L L refl) refl
    last (M ∷ ls) q = elim (cases_Bool (same L M)) [
      | inl s ↦ absurd (let z : 0 ≡ suc (length ls) = rw s at q in omega arith)
      | inr s ↦ rw s (ap suc (last ls (let z : suc (position ls L) ≡ suc (length ls) = rw s at q in omega arith)))
    ]

    there : (ls : List Location) → list_any (same L) (ls ++ L ∷ []) ≡ true
    there [] = rw (same_self L L refl) refl
    there (M ∷ ls) = rw (there ls) (or-true (same L M))

pub placed_name : (n : Numbering) (part : Part) (name : List ℕ) (k : ℕ) → IsNamed n.names (place_in part name) k → IsPlaced n (record { spot = spot.Named k; at = k })
placed_name n part name k i = let L = place_in part name in
    subst (λ (M : Location). IsAt n (record { spot = spot.Named k; at = k }) M) (sym i.here) (by_part part (place_in part name) i.at i.there refl)
  where
    by_part : (part : Part) (L : Location) → position n.names L ≡ k → list_any (same L) n.names ≡ true → L ≡ place_in part name → IsAt n (record { spot = spot.Named k; at = k }) L
    by_part sort.File L a t e = let q : is_named L ≡ true = rw e refl in record { kind = q; at = rw q (sym a); there = rw q t }
    by_part sort.Prop L a t e = let q : is_named L ≡ true = rw e refl in record { kind = q; at = rw q (sym a); there = rw q t }

-- what is kept of a test that ended, with more names
ended_names : {kept : Bool} (T : Touches) (names ls : List Location) (t : ℕ) (x : Ended) → IsEnded kept T names t x → IsEnded kept T (names ++ ls) t x
ended_names T names ls t x e = record {
  rows = λ p by more. subst (λ (ks : List Location). map (shown_by p by ks t) x.rows ≡ map (with_places T t) (edges_at p T by t)) (sym (append_assoc names ls more)) (e.rows p by (ls ++ more));
  size = e.size;
  walks = e.walks;
  alone = e.alone;
}

pub after_name : {W : ℕ} (m : TaggedMemory W) (g : Tags) (L : Location) (h : Trace) (ts : List Touch) → count g.cells ≡ count m.tags.cells → count g.named ≡ count m.tags.named + 1 →
    ((n : Numbering) (T : Touches) (t : ℕ) (ts : List Touch) (ls : List Location) → length n.names ≡ count m.tags.named → Stands n T t ts m.tags → Stands (with_names n ls) T t ts g) →
    Follows m h ts → Follows (record m { tags = g; names = m.names ++ L ∷ [] }) h ts
after_name m g L h ts c d s f = record {
  test = f.test;
  numbered = f.numbered;
  cells = c ∙ f.cells;
  named = let l = length-append m.names (L ∷ []) in let j = f.named in omega arith;
  program = f.program;
  classes = f.classes;
  told = λ T e. let t = f.told T e in record {
    stands = s (numbering m) T (h.test - 1) ts (L ∷ []) (sym f.named) t.stands;
    size = t.size;
    met = t.met;
    heads = t.heads;
    each = t.each;
    ended = λ i x v. ended_names T m.names (L ∷ []) (i + 1) x (t.ended i x v);
  };
}

same_trace : (h k : Trace) → h.ended ≡ k.ended → h.test ≡ k.test → h ≡ k
same_trace h k e f = ap (λ (xs : List (ℕ × List Touch)). record { ended = xs; test = h.test }) e ∙ ap (λ (t : ℕ). record { ended = k.ended; test = t }) f

-- the tests before one that begins came in order, and the touches are those of the last
record IsBefore (T : Touches) (h : Trace) (ts : List Touch) (test : ℕ) : Type 0 where
  number : test ≡ suc h.test
  trace : h ≡ trace_to T h.test
  touches : ts ≡ touched_by T h.test

before : (T : Touches) (h : Trace) (ts : List Touch) (test : ℕ) → next_test h ts test ≡ trace_to T test → IsBefore T h ts test
before T h ts zero e = absurd (none h.ended (ap (λ (k : Trace). k.ended) e))
  where
    none : (xs : List (ℕ × List Touch)) → xs ++ (h.test, ts) ∷ [] ≡ [] → ⊥
    none [] q = absurd (cc)
    none (x ∷ xs) q = absurd (cc)
before T h ts (suc t) e =
    let l = same_from_push h.ended (trace_to T t).ended (h.test, ts) ((trace_to T t).test, touched_by T t) (ap (λ (k : Trace). k.ended) e) in
    let n : h.test ≡ t = ap (λ (x : ℕ × List Touch). x.0) l.1 ∙ trace_test T t in
    let s : h ≡ trace_to T t = same_trace h (trace_to T t) l.0 (n ∙ sym (trace_test T t)) in
    record { number = ap suc (sym n); trace = subst (λ (u : ℕ). h ≡ trace_to T u) (sym n) s; touches = subst (λ (u : ℕ). ts ≡ touched_by T u) (sym n) (ap (λ (x : ℕ × List Touch). x.1) l.1) }

heads_begun : (kinds : ℕ → ℕ → Kind) (T : Touches) (h : Trace) (ts : List Touch) (test : ℕ) (b : Heads) → IsBefore T h ts test → HeadsStand kinds (touched_by T) h.test ts b → HeadsStand kinds (touched_by T) test [] b
heads_begun kinds T h ts test b k s = subst (λ (u : ℕ). HeadsStand kinds (touched_by T) u [] b) (sym k.number) (heads_next kinds (touched_by T) h.test ts b.classes b.marks (sym k.touches) s)

-- the first test begins
pub begun_first : {W : ℕ} (m : TaggedMemory W) (h : Trace) (ts : List Touch) (test : ℕ) → m.test ≡ 0 → Follows m h ts → Follows (record m { test = test }) (next_test h ts test) []
begun_first m h ts test z f = record {
  test = refl;
  numbered = f.numbered;
  cells = f.cells;
  named = f.named;
  program = f.program;
  classes = f.classes;
  told = λ T e. let b = before T h ts test e in let t = f.told T b.trace in
      let y : h.test ≡ 0 = sym f.test ∙ z in
      let q : h.test - 1 ≡ test - 1 = let w = b.number in omega arith in
      let w : ts ≡ [] = b.touches ∙ ap (λ (u : ℕ). touched_by T u) y in
      record {
        stands = subst (λ (u : ℕ). Stands (numbering m) T u [] m.tags) q (subst (λ (us : List Touch). Stands (numbering m) T (h.test - 1) us m.tags) w t.stands);
        size = subst (λ (u : ℕ). size m.memory.world ≡ size_in T u) q (subst (λ (us : List Touch). size m.memory.world ≡ size_after (size_in T (h.test - 1)) us) w t.size);
        met = λ kept. meet_next h.test test ts m.discovery_tree.met (let v = b.number in omega arith) (t.met kept);
        heads = λ kinds v. heads_begun kinds T h ts test m.heads b (t.heads kinds v);
        each = t.each ∙ q;
        ended = t.ended;
      };
}

one_more : {A : Type 0} (xs : List A) (x y : A) (i : ℕ) → slice_get (xs ++ x ∷ []) i ≡ Some y → (slice_get xs i ≡ Some y) ⊎ ((i ≡ length xs) × (y ≡ x))
one_more xs x y i e = let l = slice_get_within (xs ++ x ∷ []) i y e in let j = length-append xs (x ∷ []) in let g = get_or_from_slice_get (xs ++ x ∷ []) i y x e in elim (cases_lt i (length xs)) [
  | inl h ↦ inl (slice_get-get_or xs i x h ∙ ap Some (sym (get_or_append_left xs (x ∷ []) x i h) ∙ g))
  | inr h ↦ let q : i ≡ length xs = omega arith in inr (q, sym g ∙ (ap (λ (k : ℕ). get_or (xs ++ x ∷ []) k x) q ∙ get_or-append_seam xs x [] x))
]

-- a later test begins, and what is kept of the one before stands last
pub begun_next : {W : ℕ} (m : TaggedMemory W) (x : Ended) (g : Tags) (h : Trace) (ts : List Touch) (test : ℕ) → 0 < m.test →
    ((h : Trace) (ts : List Touch) (T : Touches) → Follows m h ts → h ≡ trace_to T h.test → T h.test ≡ ts → IsEnded (keeps_walks W) T m.names h.test x) → HaveSameRoom m.tags g →
    ((n : Numbering) (T : Touches) (t : ℕ) (ts : List Touch) → m.test ≡ suc t → T m.test ≡ ts → Stands n T t ts m.tags → Stands n T m.test [] g) →
    Follows m h ts → Follows (record m { ended = m.ended ++ x ∷ []; tags = g; test = test }) (next_test h ts test) []
begun_next {W} m x g h ts test z k r s f = record {
  test = refl;
  numbered = f.numbered;
  cells = r.cells ∙ f.cells;
  named = r.named ∙ f.named;
  program = f.program;
  classes = f.classes;
  told = λ T e. let b = before T h ts test e in let t = f.told T b.trace in let y = f.test in
      let i : h.test ≡ suc (h.test - 1) = omega arith in
      let w : T h.test ≡ ts = ran_touches T h.test i ∙ sym b.touches in
      let q : m.test ≡ test - 1 = let v = b.number in omega arith in
      let c : size m.memory.world ≡ size_in T (suc (h.test - 1)) = t.size ∙ ap (λ (us : List Touch). size_after (size_in T (h.test - 1)) us) (sym w ∙ ap T i) in
      let d = k h ts T f b.trace w in
      record {
        stands = subst (λ (u : ℕ). Stands (numbering m) T u [] g) q (s (numbering m) T (h.test - 1) ts (y ∙ i) (ap T y ∙ w) t.stands);
        size = c ∙ ap (λ (u : ℕ). size_in T u) (sym i ∙ (sym y ∙ q));
        met = λ kept. meet_next h.test test ts m.discovery_tree.met (let v = b.number in omega arith) (t.met kept);
        heads = λ kinds v. heads_begun kinds T h ts test m.heads b (t.heads kinds v);
        each = let l = length-append m.ended (x ∷ []) in let v = t.each in let u = b.number in omega arith;
        ended = λ j a v. elim (one_more m.ended x a j v) [
          | inl o ↦ t.ended j a o
          | inr o ↦ let n : h.test ≡ j + 1 = let p = o.0 in let v = t.each in omega arith in
              subst (λ (y : Ended). IsEnded (keeps_walks W) T m.names (j + 1) y) (sym o.1) (subst (λ (u : ℕ). IsEnded (keeps_walks W) T m.names u x) n d)
        ];
      };
}
  where
    ran_touches : (T : Touches) (t : ℕ) → t ≡ suc (t - 1) → T t ≡ touched_by T t
    ran_touches T zero e = absurd (omega arith)
    ran_touches T (suc t) e = refl

length-bases : (b : ℕ) (xs : List Object) → length (bases b xs) ≡ length xs
length-bases b [] = refl
length-bases b (x ∷ xs) = ap suc (length-bases (b + width x) xs)

-- how many objects there are
pub objects_in : (w : World) (n : Numbers) → IsNumbered w n → length n.bases.items ≡ size w
objects_in w n i = ap (λ (ns : List ℕ). length ns) i.bases ∙ length-bases (length w.statics + length w.states) w.objects

-- what is kept of a test when it ends
pub summed : {W : ℕ} (m : TaggedMemory W) (x : Ended) (h : Trace) (ts : List Touch) (T : Touches) → 0 < m.test →
    ((n : Numbering) (T : Touches) (t : ℕ) (ts : List Touch) (p : Program) (by : ℕ → ℕ × ℕ) → m.test ≡ suc t → T m.test ≡ ts → Stands n T t ts m.tags
    → (xs : List Row) × (x.rows ≡ [] ++ xs) × (map (shown_by p by n.names m.test) xs ≡ map (with_places T m.test) (edges_at p T by m.test))) →
    ((ts : List Touch) → keeps_walks W ≡ true → 0 < m.test → HasDiscovered m.test ts m.discovery_tree → HaveRowsWalks ts x.rows x.walks) → x.size ≡ length m.numbers.bases.items →
    ((n : Numbering) (T : Touches) (t : ℕ) (ts : List Touch) → Stands n T t ts m.tags → x.alone ≡ list_all (λ L. not (exposed ts L) || same L (place.Static out_field)) (places ts)) →
    Follows m h ts → h ≡ trace_to T h.test → T h.test ≡ ts → IsEnded (keeps_walks W) T m.names h.test x
summed m x h ts T z rows walks size_is alone f e w =
    let t = f.told T e in let y = f.test in
    let i : h.test ≡ suc (h.test - 1) = omega arith in
    record {
      rows = λ p by more.
          let s = more_names_stand (numbering m) T (h.test - 1) ts (tag_in m.tags.cells) (tag_in m.tags.named) (touched_in m.tags.touched) t.stands more (tag_in m.tags.named)
          (λ l k. let j = f.named in no_tag_past m.tags.named.pasts m.tags.named.readers m.tags.named.marks l m.tags.named.sound (omega arith)) (λ l. refl) in
          let r = rows (with_names (numbering m) more) T (h.test - 1) ts p by (y ∙ i) (ap T y ∙ w) s in
          subst (λ (u : ℕ). map (shown_by p by (m.names ++ more) u) x.rows ≡ map (with_places T u) (edges_at p T by u)) y
          (subst (λ (xs : List Row). map (shown_by p by (m.names ++ more) m.test) xs ≡ map (with_places T m.test) (edges_at p T by m.test)) (sym r.1) r.2);
      size = size_is ∙ (objects_in m.memory.world m.numbers f.numbered ∙ (t.size ∙ (ap (λ (us : List Touch). size_after (size_in T (h.test - 1)) us) (sym w ∙ ap T i) ∙ ap (λ (u : ℕ). size_in T u) (sym i))));
      walks = λ kept. subst (λ (us : List Touch). HaveRowsWalks us x.rows x.walks) (sym w) (walks ts kept z (subst (λ (u : ℕ). HasDiscovered u ts m.discovery_tree) (sym y) (t.met kept)));
      alone = alone (numbering m) T (h.test - 1) ts t.stands ∙ ap (λ (us : List Touch). list_all (λ L. not (exposed us L) || same L (place.Static out_field)) (places us)) (sym w);
    }

-- before the first test
pub opened : (p : Program) {W : ℕ} (m : TaggedMemory W) → m.memory.world ≡ opening p → m.memory.program ≡ p → m.numbers.statics ≡ length p.fields → m.numbers.bases.items ≡ [] → m.numbers.layouts ≡ m.numbers.places → m.numbers.places ≡ p → m.heads.classes ≡ length p.classes →
    count m.tags.cells ≡ length p.fields + length p.classes → count m.tags.named ≡ 0 → m.names ≡ [] → m.ended ≡ [] → m.test ≡ 0 →
    ((T : Touches) (n : Numbering) → n.cells ≡ [] ++ statics_of (opening p) ++ states_of (opening p) → Stands n T 0 [] m.tags) → ((t : ℕ) → HasDiscovered t [] m.discovery_tree) →
    ((kinds : ℕ → ℕ → Kind) (T : Touches) → HeadsStand kinds T 0 [] m.heads) → Follows m empty_trace []
unfolding opening
opened p m q o a b l r h c d n e t s met heads =
    let w = opening p in
    let f = length-map p.fields (λ f. f.opening) in let g = length-map p.classes (λ c. Idle) in
    let i = length-statics w in let j = length-states w in
    let z : cells_of w ≡ statics_of w ++ states_of w = ap (λ (ls : List Location). statics_of w ++ ls) (append-nil (states_of w)) in
    let y = length-append (statics_of w) (states_of w) in
    let x = ap (λ (ls : List Location). length ls) z in
    record {
      test = t;
      numbered = subst (λ (v : World). IsNumbered v m.numbers) (sym q) (record { statics = a ∙ sym f; bases = b; layouts = l; laid = λ u y. absurd (omega arith) });
      cells = let u : count m.tags.cells ≡ length (cells_of w) = omega arith in u ∙ ap (λ (v : World). length (cells_of v)) (sym q);
      named = d ∙ ap (λ (ls : List Location). length ls) (sym n);
      program = r ∙ sym o;
      classes = h ∙ ap (λ (z : Program). length z.classes) (sym r);
      told = λ T u. record {
        stands = s T (numbering m) (ap cells_of q ∙ z);
        size = ap size q;
        met = λ kept. met 0;
        heads = λ kinds v. heads kinds (touched_by T);
        each = ap (λ (xs : List Ended). length xs) e;
        ended = λ v y g. absurd (none_there v y (subst (λ (xs : List Ended). slice_get xs v ≡ Some y) e g));
      };
    }
  where
    none_there : (v : ℕ) (y : Ended) → slice_get [] v ≡ Some y → ⊥
    none_there zero y r = absurd (cc)
    none_there (suc v) y r = absurd (cc)

-- a touch of a file or property
pub name_notes : {W : ℕ} (m : TaggedMemory W) (g : Tags) (part : Part) (name : List ℕ) (k : ℕ) (write : Bool) → IsNamed m.names (place_in part name) k → HaveSameRoom m.tags g →
    ((n : Numbering) (T : Touches) (t : ℕ) (ts : List Touch) (x : Touch) → IsPlaced n (record { spot = spot.Named k; at = k }) → x.write ≡ write → x.location ≡ located n.names (spot.Named k) → Stands n T t ts m.tags → Stands n T t (ts ++ x ∷ []) g) →
    NotesOne m g m.discovery_tree m.heads (record { write = write; location = place_in part name; gave = None })
name_notes m g part name k write i r s = let x : Touch = record { write = write; location = place_in part name; gave = None } in record {
  room = r;
  tags = λ T t ts a. s (numbering m) T t ts x (placed_name (numbering m) part name k i) refl (sym i.here) a;
  met = λ ts kept a. meet_ungiven m.test ts x m.discovery_tree.met a refl;
  heads = λ kinds T U t ts s q a. heads_quiet kinds T m.test ts m.heads.classes (x ∷ []) m.heads.marks (λ o c. quiet part o c) a;
  size = same_size part write (size m.memory.world);
  classes = refl;
}
  where
    quiet : (part : Part) (o : ℕ → Kind) (c : ℕ) → touches_class o c (record { write = write; location = place_in part name; gave = None } ∷ []) ≡ false
    quiet sort.File o c = refl
    quiet sort.Prop o c = refl

    same_size : (part : Part) (b : Bool) (n : ℕ) → size_after n (record { write = b; location = place_in part name; gave = None } ∷ []) ≡ n
    same_size sort.File true n = refl
    same_size sort.File false n = refl
    same_size sort.Prop true n = refl
    same_size sort.Prop false n = refl

-- a file or property was written
pub store_put : {W : ℕ} (m : TaggedMemory W) (k : Kept) (part : Part) (name : List ℕ) (c : Option (List ℕ)) (h : Trace) (ts : List Touch) → k.program ≡ m.memory.program → k.world ≡ put_in part m.memory.world name c → Follows m h ts → Follows (record m { memory = k }) h ts
store_put m k sort.File name c h ts p q f = after_put m k (place.File name) c h ts refl tt p q f
store_put m k sort.Prop name c h ts p q f = after_put m k (place.Prop name) c h ts refl tt p q f

-- a part of the memory was lent after a touch was noted
pub lent : {T E : Type 0} (C : Type 0) (r : Result T E) {W : ℕ} (m n : TaggedMemory W) (k : Kept) (xs : List Touch) → (k.program ≡ n.memory.program) × OnOk r ((k.world ≡ n.memory.world) × C) → n.memory ≡ m.memory → Extends Follows m n xs →
    (k.program ≡ m.memory.program) × OnOk r ((k.world ≡ m.memory.world) × Extends Follows m (record n { memory = k }) xs)
lent C r m n k xs q e a = (q.0 ∙ ap (λ (v : Kept). v.program) e, on_ok_weaker r (λ z. (z.0 ∙ ap (λ (v : Kept). v.world) e, λ h ts f. after_read n k h (ts ++ xs) q.0 z.0 (a h ts f))) q.1)

abbrev pub Grows : Tags → Tags → Type 0
Grows a b = (n : Numbering) (T : Touches) (t : ℕ) (ts : List Touch) (ls : List Location) → length n.cells ≡ count a.cells → Stands n T t ts a → Stands (with_cells n ls) T t ts b

-- the tags of statics and class states before the first test
pub opened_tags : (p : Program) (a b d : Tags) → count a.cells ≡ 0 → count b.cells ≡ length p.fields → ((n : Numbering) (T : Touches) → Stands n T 0 [] a) → Grows a b → Grows b d →
    (T : Touches) (n : Numbering) → n.cells ≡ [] ++ statics_of (opening p) ++ states_of (opening p) → Stands n T 0 [] d
unfolding opening
opened_tags p a b d z l s g k T n e =
    let i : Numbering = record { cells = []; names = n.names } in
    let j = with_cells i (statics_of (opening p)) in
    let x = length-statics (opening p) in let y = length-map p.fields (λ f. f.opening) in
    subst (λ (ls : List Location). Stands (record { cells = ls; names = n.names }) T 0 [] d) (sym e)
    (k j T 0 [] (states_of (opening p)) (omega arith) (g i T 0 [] (statics_of (opening p)) (sym z) (s i T)))
