-- What a memory with tags follows after one more touch, in another world, and after one more object.
use Rattle.std.proofs.Common.{◌≡◌, ℕ, suc, ◌+◌, ◌-◌, ◌<◌, Bool, true, false, cond, List, [], ◌∷◌, ◌++◌, length, get_or, map, set, max, refl, sym, ◌∙◌, ap, subst, arith, inl, inr, nat_eq, Option, None, Some, slice_get, length-append}
use Rattle.std.specs.List.{list_any}
use Rattle.std.proofs.Math.Seq.{get_or-append_seam}
use Rattle.std.proofs.lemmas.Bool.{cases_eq, cases_lt}
use Rattle.std.proofs.lemmas.List.{length-map, get_or_append_left, get_or-set_same, get_or-set_other}
use Rattle.jvm_model.specs.declared.values.{Head.Head, Kind.Kind, Location.Location, Touch.Touch, InitState.TheVariants.Idle, Value.Value}
use Rattle.jvm_model.specs.declared.values.Kind.TheVariants as kind
use Rattle.jvm_model.specs.declared.values.Location.TheVariants as place
use Rattle.jvm_model.specs.declared.values.Value.TheVariants.{Null}
use Rattle.jvm_model.specs.declared.program.Program.{Program}
use Rattle.jvm_model.specs.Access.{elems_made, fields_made, made, text_made, write_of}
use Rattle.jvm_model.specs.Classes.{blank, elems_of, fields_of, member}
use Rattle.jvm_model.specs.View.{Exists, keys}
use Rattle.jvm_model.specs.World.{World, Object, Content, at, put, put_at, keep, same, size, object_at, no_object, make_object}
use Rattle.jvm_model.proofs.{Locations.size_put, Ranges.length_put_at}
use Rattle.order_law.specs.Histories.{Touches}
use Rattle.vm_mem.specs.{Kept.Kept, Trace.Trace, Trace.Extends}
use Rattle.access_tags.specs.declared.ended.Ended.{Ended}
use Rattle.access_tags.specs.declared.heads.Heads.{Heads}
use Rattle.access_tags.specs.declared.conflict.{LocationKey.LocationKey, Touched.Touched}
use Rattle.access_tags.specs.declared.conflict.LocationKey.TheVariants as spot
use Rattle.access_tags.specs.declared.discovery_tree.DiscoveryTree.{DiscoveryTree}
use Rattle.access_tags.specs.declared.memory.TaggedMemory.{TaggedMemory}
use Rattle.access_tags.specs.declared.numbers.Numbers.{Numbers}
use Rattle.access_tags.specs.declared.tags.Tags.{Tags}
use Rattle.access_tags.specs.Followed.{AreKinds, Follows, HasNoted, HaveNoted, HaveSameRoom, IsEnded, IsLaid, IsNumbered, numbering, numbering_in, keeps_walks}
use Rattle.access_tags.specs.Numbering.{Numbering, IsPlaced, is_name, located, tag_at, with_cells}
use Rattle.access_tags.specs.Ran.{size_after, size_in, touched_by, with_head}
use Rattle.access_tags.specs.{HeadMarks.IsKindAt, HeadsStand.HeadsStand, HasDiscovered.HasDiscovered, AccessLogs.touched_in, Shelf.count, Shelf.tag_in, Stands.Stands, Tag.covers}
use Rattle.access_tags.proofs.{FirstReads.meet_made, FirstReads.meet_ungiven, HeadNotes.heads_again, HeadNotes.heads_made, PartNotes.placed, Spread.length-parts}
use Rattle.access_tags.proofs.Stood.{covered_stands, covered_touched}
use Rattle.access_tags.specs.Worlds.{cells_of, bases_of, number_in, parts, width}
use Rattle.access_tags.proofs.Changes.{keys_kept, made_bases, made_cells, put_bases, put_cells}

-- how many objects there are after touches
pub size_append : (n : ℕ) (ts xs : List Touch) → size_after n (ts ++ xs) ≡ size_after (size_after n ts) xs
size_append n [] xs = refl
size_append n (x ∷ ts) xs = size_append (cond x.write (with_head n x.location) n) ts xs

size_fields : (n o : ℕ) (xs : List (ℕ × Value)) (ys : List Touch) → size_after n (fields_made o xs ++ ys) ≡ size_after n ys
size_fields n o [] ys = refl
size_fields n o (x ∷ xs) ys = size_fields n o xs ys

size_elems : (n o i : ℕ) (xs : List Value) (ys : List Touch) → size_after n (elems_made o i xs ++ ys) ≡ size_after n ys
size_elems n o i [] ys = refl
size_elems n o i (x ∷ xs) ys = size_elems n o (suc i) xs ys

size_text : (n o : ℕ) (t : Option (List ℕ)) → size_after n (text_made o t) ≡ n
size_text n o None = refl
size_text n o (Some t) = refl

pub size_made : (n : ℕ) (x : Object) → size_after n (made n x) ≡ suc n
size_made n x = let m : max n (suc n) ≡ suc n = omega arith in
    ap (λ (k : ℕ). size_after k (fields_made n x.fields ++ (elems_made n 0 x.elems ++ text_made n x.text))) m ∙ (size_fields (suc n) n x.fields (elems_made n 0 x.elems ++ text_made n x.text) ∙ (size_elems (suc n) n 0 x.elems (text_made n x.text) ∙ size_text (suc n) n x.text))

-- another world with the same locations and heads
record IsAlike {W : ℕ} (m : TaggedMemory W) (k : Kept) : Type 0 where
  program : k.program ≡ m.memory.program
  cells : cells_of k.world ≡ cells_of m.memory.world
  size : size k.world ≡ size m.memory.world
  heads : (o : ℕ) → (object_at k.world o).head ≡ (object_at m.memory.world o).head
  numbered : IsNumbered k.world m.numbers

moved : {W : ℕ} (m : TaggedMemory W) (k : Kept) (h : Trace) (ts : List Touch) → IsAlike m k → Follows m h ts → Follows (record m { memory = k }) h ts
moved m k h ts a f = record {
  test = f.test;
  numbered = a.numbered;
  cells = f.cells ∙ ap (λ (ls : List Location). length ls) (sym a.cells);
  named = f.named;
  program = f.program ∙ sym a.program;
  classes = f.classes;
  told = λ T e. let g = f.told T e in record {
    stands = subst (λ (ls : List Location). Stands (record { cells = ls; names = m.names }) T (h.test - 1) ts m.tags) (sym a.cells) g.stands;
    size = a.size ∙ g.size;
    met = g.met;
    heads = λ kinds q. g.heads kinds (λ u o l. let i = a.size in q u o (omega arith) ∙ ap (λ (x : Head). x.kind) (a.heads o));
    each = g.each;
    ended = g.ended;
  };
}

-- a location that calls write: each but a head
abbrev pub is_cell : Location → Bool
is_cell (place.Head o) = false
is_cell _ = true

laid_set : (p : Program) (xs : List Object) (a o : ℕ) (y : Object) → a < length xs → IsLaid p y → IsLaid p (get_or xs o no_object) → IsLaid p (get_or (set xs a y) o no_object)
laid_set p xs a o y h l k = elim (cases_eq o a) [
  | inl e ↦ rw e (rw (get_or-set_same xs a y no_object h) l)
  | inr d ↦ rw (get_or-set_other xs a o y no_object d) k
]

laid_fields : (p : Program) (x : Object) (f : ℕ) (v : Value) → member f (keys x.fields) ≡ true → IsLaid p x → IsLaid p (record x { fields = keep nat_eq x.fields f v })
laid_fields p x f v h l = let q = keys_kept x.fields f v h in
    let a = ap (λ (ks : List ℕ). length ks) q in let b = length-map x.fields (λ (z : ℕ × Value). z.0) in let c = length-map (keep nat_eq x.fields f v) (λ (z : ℕ × Value). z.0) in
    record { fields = q ∙ l.fields; elems = λ i. let j = l.elems i in omega arith }

laid_elems : (p : Program) (x : Object) (i : ℕ) (v d : Value) → i < length x.elems → IsLaid p x → IsLaid p (record x { elems = put_at d x.elems i v })
laid_elems p x i v d h l = record { fields = l.fields; elems = λ j. l.elems (omega arith) }

laid_put : (p : Program) (w : World) (L : Location) (v : Content L) (o : ℕ) → is_cell L ≡ true → Exists w L → ((a : ℕ) → a < size w → IsLaid p (object_at w a)) → o < size w → IsLaid p (object_at (put w L v) o)
laid_put p w (place.Head a) v o c e l h = absurd (cc)
laid_put p w (place.Field a f) v o c e l h = laid_set p w.objects a o _ e.0 (laid_fields p (object_at w a) f v e.1 (l a e.0)) (l o h)
laid_put p w (place.Elem a i) v o c e l h = laid_set p w.objects a o _ e.0 (laid_elems p (object_at w a) i v _ e.1 (l a e.0)) (l o h)
laid_put p w (place.Text a) v o c e l h = laid_set p w.objects a o _ e (record { fields = (l a e).fields; elems = (l a e).elems }) (l o h)
laid_put p w _ v o c e l h = l o h

statics_put : (w : World) (L : Location) (v : Content L) → Exists w L → length (put w L v).statics ≡ length w.statics
statics_put w (place.Static f) v h = length_put_at _ w.statics f v h
statics_put w _ v h = refl

numbered_put : (w : World) (n : Numbers) (L : Location) (v : Content L) → is_cell L ≡ true → Exists w L → IsNumbered w n → IsNumbered (put w L v) n
numbered_put w n L v c e i = let s = size_put w L v in record {
  statics = i.statics ∙ sym (statics_put w L v e);
  bases = i.bases ∙ sym (put_bases w L v e);
  layouts = i.layouts;
  laid = λ o h. laid_put n.places w L v o c e i.laid (omega arith);
}

head_set : (xs : List Object) (a o : ℕ) (y : Object) → a < length xs → y.head ≡ (get_or xs a no_object).head → (get_or (set xs a y) o no_object).head ≡ (get_or xs o no_object).head
head_set xs a o y h e = elim (cases_eq o a) [
  | inl q ↦ rw q (rw (get_or-set_same xs a y no_object h) e)
  | inr d ↦ ap (λ (x : Object). x.head) (get_or-set_other xs a o y no_object d)
]

head_put : (w : World) (L : Location) (v : Content L) (o : ℕ) → is_cell L ≡ true → Exists w L → (object_at (put w L v) o).head ≡ (object_at w o).head
head_put w (place.Head a) v o c e = absurd (cc)
head_put w (place.Field a f) v o c e = head_set w.objects a o _ e.0 refl
head_put w (place.Elem a i) v o c e = head_set w.objects a o _ e.0 refl
head_put w (place.Text a) v o c e = head_set w.objects a o _ e refl
head_put w _ v o c e = refl

-- a call that writes
pub after_put : {W : ℕ} (m : TaggedMemory W) (k : Kept) (L : Location) (v : Content L) (h : Trace) (ts : List Touch) → is_cell L ≡ true → Exists m.memory.world L → k.program ≡ m.memory.program → k.world ≡ put m.memory.world L v →
    Follows m h ts → Follows (record m { memory = k }) h ts
after_put m k L v h ts c e p q f = let w = m.memory.world in moved m k h ts (record {
  program = p;
  cells = ap cells_of q ∙ put_cells w L v e;
  size = ap size q ∙ size_put w L v;
  heads = λ o. ap (λ (z : World). (object_at z o).head) q ∙ head_put w L v o c e;
  numbered = subst (λ (z : World). IsNumbered z m.numbers) (sym q) (numbered_put w m.numbers L v c e f.numbered);
}) f

-- a call that reads
pub after_read : {W : ℕ} (m : TaggedMemory W) (k : Kept) (h : Trace) (ts : List Touch) → k.program ≡ m.memory.program → k.world ≡ m.memory.world → Follows m h ts → Follows (record m { memory = k }) h ts
after_read m k h ts p q f = moved m k h ts (record {
  program = p;
  cells = ap cells_of q;
  size = ap size q;
  heads = λ o. ap (λ (z : World). (object_at z o).head) q;
  numbered = subst (λ (z : World). IsNumbered z m.numbers) (sym q) f.numbered;
}) f

pub exists_put : (w : World) (L : Location) (v : Content L) → is_cell L ≡ true → Exists w L → Exists (put w L v) L
exists_put w (place.Static f) v c e = let l = length_put_at Null w.statics f v e in omega arith
exists_put w (place.Init f) v c e = let l = length_put_at Idle w.states f v e in omega arith
exists_put w (place.Head a) v c e = absurd (cc)
exists_put w (place.Field a f) v c e = let s = size_put w (place.Field a f) v in (omega arith, rw (get_or-set_same w.objects a _ no_object e.0) (rw (keys_kept (object_at w a).fields f v e.1) e.1))
exists_put w (place.Elem a i) v c e = let s = size_put w (place.Elem a i) v in let l = length_put_at Null (object_at w a).elems i v e.1 in (omega arith, rw (get_or-set_same w.objects a _ no_object e.0) (omega arith))
exists_put w (place.Text a) v c e = let s = size_put w (place.Text a) v in omega arith
exists_put w _ v c e = tt

-- what the parts that a memory keeps say of one more touch
pub record NotesOne {W : ℕ} (m : TaggedMemory W) (g : Tags) (a : DiscoveryTree) (b : Heads) (x : Touch) : Type 0 where
  pub room : HaveSameRoom m.tags g
  pub tags : HaveNoted (numbering m) m.tags g (x ∷ [])
  pub met : (ts : List Touch) → keeps_walks W ≡ true → HasDiscovered m.test ts m.discovery_tree → HasDiscovered m.test (ts ++ x ∷ []) a
  pub heads : (kinds : ℕ → ℕ → Kind) (T U : Touches) (t : ℕ) (ts : List Touch) → Stands (numbering m) U t ts m.tags → AreKinds kinds m.memory.world → HeadsStand kinds T m.test ts m.heads → HeadsStand kinds T m.test (ts ++ x ∷ []) b
  pub size : size_after (size m.memory.world) (x ∷ []) ≡ size m.memory.world
  pub classes : b.classes ≡ m.heads.classes

pub noted : {W : ℕ} (m : TaggedMemory W) (g : Tags) (a : DiscoveryTree) (b : Heads) (x : Touch) (h : Trace) (ts : List Touch) → NotesOne m g a b x → Follows m h ts → Follows (record m { tags = g; discovery_tree = a; heads = b }) h (ts ++ x ∷ [])
noted m g a b x h ts n f = record {
  test = f.test;
  numbered = f.numbered;
  cells = n.room.cells ∙ f.cells;
  named = n.room.named ∙ f.named;
  program = f.program;
  classes = n.classes ∙ f.classes;
  told = λ T e. let t = f.told T e in record {
    stands = n.tags T (h.test - 1) ts t.stands;
    size = sym n.size ∙ (ap (λ (j : ℕ). size_after j (x ∷ [])) t.size ∙ sym (size_append (size_in T (h.test - 1)) ts (x ∷ [])));
    met = λ kept. subst (λ (u : ℕ). HasDiscovered u (ts ++ x ∷ []) a) f.test (n.met ts kept (subst (λ (u : ℕ). HasDiscovered u ts m.discovery_tree) (sym f.test) (t.met kept)));
    heads = λ kinds q. subst (λ (u : ℕ). HeadsStand kinds (touched_by T) u (ts ++ x ∷ []) b) f.test
        (n.heads kinds (touched_by T) T (h.test - 1) ts t.stands q (subst (λ (u : ℕ). HeadsStand kinds (touched_by T) u ts m.heads) (sym f.test) (t.heads kinds q)));
    each = t.each;
    ended = t.ended;
  };
}

-- one more touch of a head that is known to be noted
pub head_again : {W : ℕ} (m : TaggedMemory W) (o at : ℕ) (d : Option Kind) → ((w : World) → IsNumbered w m.numbers → is_name (spot.Head o) ≡ false → Exists w (place.Head o) → at ≡ number_in w (place.Head o)) →
    covers false (tag_at (tag_in m.tags.cells) (tag_in m.tags.named) (record { spot = spot.Head o; at = at })).mark ≡ true → HasNoted m m (spot.Head o) false None d
head_again m o at d given k x i e w l v a z h ts f =
    let n = numbering m in
    let y : Touched = record { spot = spot.Head o; at = at } in
    let p : IsPlaced n y = placed m.memory.world m.names (spot.Head o) at i e (given m.memory.world f.numbered i e) in
    noted m m.tags m.discovery_tree m.heads x h ts (record {
      room = record { cells = refl; named = refl };
      tags = λ T t us s. covered_stands n T t us (tag_in m.tags.cells) (tag_in m.tags.named) (touched_in m.tags.touched) s y x false w p l k;
      met = λ us kept j. meet_ungiven m.test us x m.discovery_tree.met j v;
      heads = λ kinds T U t us s q. heads_again kinds T m.test us m.heads.classes x m.heads.marks
          (subst (λ (L : Location). list_any (same L) (map (λ (x : Touch). x.location) us) ≡ true) (sym l) (covered_touched n U t us (tag_in m.tags.cells) (tag_in m.tags.named) (touched_in m.tags.touched) s y false p k));
      size = z;
      classes = refl;
    }) f

-- the kind that is told with a touch, where these are the kinds of all objects
pub kind_at : (kinds : ℕ → ℕ → Kind) (w : World) (u : ℕ) (L : Location) (k : Option Kind) → AreKinds kinds w → Exists w L → IsKindAt (λ o. (at w (place.Head o)).kind) L k → IsKindAt (kinds u) L k
kind_at kinds w u (place.Head o) k a e q = q ∙ ap Some (sym (a u o e))
kind_at kinds w u _ k a e q = q

-- a touch that was noted after a call of the memory
pub read_noted : {W : ℕ} (m n : TaggedMemory W) (k : Kept) (s : LocationKey) (g : Option ℕ) (d : Option Kind) (x : Touch) → is_name s ≡ false → Exists m.memory.world (located [] s) → k.program ≡ m.memory.program → k.world ≡ m.memory.world →
    x.write ≡ false → x.location ≡ located [] s → x.gave ≡ g → IsKindAt (λ o. (at m.memory.world (place.Head o)).kind) (located [] s) d → HasNoted (record m { memory = k }) n s false g d → Extends Follows m n (x ∷ [])
read_noted m n k s g d x i e p q w l v a told h ts f = told x i (subst (λ (z : World). Exists z (located [] s)) (sym q) e) w l v
    (subst (λ (z : World). IsKindAt (λ o. (at z (place.Head o)).kind) (located [] s) d) (sym q) a) (rw w refl) h ts (after_read m k h ts p q f)

cell_size : (n : ℕ) (L : Location) → is_cell L ≡ true → with_head n L ≡ n
cell_size n (place.Head o) c = absurd (cc)
cell_size n _ c = refl

cell_kind : (kinds : ℕ → Kind) (L : Location) → is_cell L ≡ true → IsKindAt kinds L None
cell_kind kinds (place.Head o) c = absurd (cc)
cell_kind kinds _ c = refl

pub write_noted : {W : ℕ} (m n : TaggedMemory W) (k : Kept) (s : LocationKey) (v : Content (located [] s)) → is_name s ≡ false → is_cell (located [] s) ≡ true → Exists m.memory.world (located [] s) → k.program ≡ m.memory.program →
    k.world ≡ put m.memory.world (located [] s) v → HasNoted (record m { memory = k }) n s true None None → Extends Follows m n (write_of (located [] s) ∷ [])
write_noted m n k s v i c e p q told h ts f = let L = located [] s in told (write_of L) i (subst (λ (z : World). Exists z L) (sym q) (exists_put m.memory.world L v c e)) refl refl refl
    (cell_kind (λ o. (at k.world (place.Head o)).kind) L c) (cell_size (size k.world) L c) h ts (after_put m k L v h ts c e p q f)

-- a new object's parts
pub laid_blank : (p : Program) (x : Head) → IsLaid p (blank p x)
unfolding blank
laid_blank p x = record { fields = refl; elems = by_kind x.kind }
  where
    by_kind : (k : Kind) → 0 < length (elems_of k x.length) → length (fields_of p k) ≡ 0
    by_kind (kind.Class c) h = absurd (omega arith)
    by_kind (kind.Array d b) h = refl

pub width_blank : (p : Program) (x : Head) → width (blank p x) ≡ 2 + (length (fields_of p x.kind) + length (elems_of x.kind x.length))
unfolding blank
width_blank p x = refl

pub numbered_made : (w : World) (n k : Numbers) (x : Object) (b : ℕ) → IsNumbered w n → b ≡ length (cells_of w) → IsLaid n.places x → k.statics ≡ n.statics → k.bases.items ≡ n.bases.items ++ b ∷ [] → k.places ≡ n.places → k.layouts ≡ n.layouts →
    IsNumbered (make_object w x) k
numbered_made w n k x b i e l s q a c = record {
  statics = s ∙ i.statics;
  bases = q ∙ (ap (λ (ns : List ℕ). ns ++ b ∷ []) i.bases ∙ (ap (λ (j : ℕ). bases_of w ++ j ∷ []) e ∙ sym (made_bases w x)));
  layouts = c ∙ (i.layouts ∙ sym a);
  laid = λ o h. subst (λ (p : Program). IsLaid p (object_at (make_object w x) o)) (sym a) (elim (cases_lt o (size w)) [
    | inl j ↦ rw (get_or_append_left w.objects (x ∷ []) no_object o j) (i.laid o j)
    | inr j ↦ let z = length-append w.objects (x ∷ []) in let y : o ≡ size w = omega arith in rw y (rw (get_or-append_seam w.objects x [] no_object) l)
  ]);
}

-- the head of a new object
pub head_blank : (p : Program) (x : Head) → (blank p x).head ≡ x
unfolding blank
head_blank p x = refl

-- the tags got room for the parts of a new object
pub grown : {W : ℕ} (m : TaggedMemory W) (g : Tags) (x : Object) (T : Touches) (t : ℕ) (ts : List Touch) →
    ((n : Numbering) (T : Touches) (t : ℕ) (ts : List Touch) (ls : List Location) → length n.cells ≡ count m.tags.cells → Stands n T t ts m.tags → Stands (with_cells n ls) T t ts g) →
    count m.tags.cells ≡ length (cells_of m.memory.world) → Stands (numbering m) T t ts m.tags → Stands (numbering_in (make_object m.memory.world x) m.names) T t ts g
grown m g x T t ts s e k = subst (λ (ls : List Location). Stands (record { cells = ls; names = m.names }) T t ts g) (sym (made_cells m.memory.world x)) (s (numbering m) T t ts (parts (size m.memory.world) x) (sym e) k)

-- what the parts that a memory keeps say of a new object
pub record NotesMade {W : ℕ} (m n : TaggedMemory W) (g : Tags) (x : Object) : Type 0 where
  pub program : n.memory.program ≡ m.memory.program
  pub world : n.memory.world ≡ make_object m.memory.world x
  pub numbered : IsNumbered (make_object m.memory.world x) n.numbers
  pub cells : count m.tags.cells ≡ length (cells_of m.memory.world) → count n.tags.cells ≡ length (cells_of m.memory.world) + width x
  pub places : n.numbers.places ≡ m.numbers.places
  pub named : count n.tags.named ≡ count m.tags.named
  pub grown : (T : Touches) (t : ℕ) (ts : List Touch) → count m.tags.cells ≡ length (cells_of m.memory.world) → Stands (numbering m) T t ts m.tags → Stands (numbering_in (make_object m.memory.world x) m.names) T t ts g
  pub tags : HaveNoted (numbering_in (make_object m.memory.world x) m.names) g n.tags (made (size m.memory.world) x)
  pub heads : (kinds : ℕ → ℕ → Kind) (T : Touches) (ts : List Touch) (y : Touch) (o : ℕ) → y.location ≡ place.Head o → kinds m.test o ≡ x.head.kind → HeadsStand kinds T m.test ts m.heads → HeadsStand kinds T m.test (ts ++ y ∷ []) n.heads
  pub classes : n.heads.classes ≡ m.heads.classes
  pub names : n.names ≡ m.names
  pub ended : n.ended ≡ m.ended
  pub discovery_tree : n.discovery_tree ≡ m.discovery_tree
  pub test : n.test ≡ m.test

-- an object more, and its touches
pub after_make : {W : ℕ} (m n : TaggedMemory W) (g : Tags) (x : Object) (h : Trace) (ts : List Touch) → NotesMade m n g x → Follows m h ts → Follows n h (ts ++ made (size m.memory.world) x)
after_make {W} m n g x h ts k f = record {
  test = k.test ∙ f.test;
  numbered = subst (λ (z : World). IsNumbered z n.numbers) (sym k.world) k.numbered;
  cells = let l = length-parts a x in let j = length-append (cells_of w) (parts a x) in let c = k.cells f.cells in
      let y : count n.tags.cells ≡ length (cells_of w ++ parts a x) = omega arith in
      y ∙ ap (λ (ls : List Location). length ls) (sym (made_cells w x) ∙ ap cells_of (sym k.world));
  named = k.named ∙ (f.named ∙ ap (λ (ls : List Location). length ls) (sym k.names));
  program = k.places ∙ (f.program ∙ sym k.program);
  classes = k.classes ∙ (f.classes ∙ ap (λ (p : Program). length p.classes) (sym k.places));
  told = λ T u. let t = f.told T u in record {
    stands = subst (λ (z : World). Stands (numbering_in z n.names) T (h.test - 1) (ts ++ made a x) n.tags) (sym k.world)
        (subst (λ (ls : List Location). Stands (numbering_in v ls) T (h.test - 1) (ts ++ made a x) n.tags) (sym k.names) (k.tags T (h.test - 1) ts (k.grown T (h.test - 1) ts f.cells t.stands)));
    size = ap size k.world ∙ (longer ∙ (sym (size_made a x) ∙ (ap (λ (j : ℕ). size_after j (made a x)) t.size ∙ sym (size_append (size_in T (h.test - 1)) ts (made a x)))));
    met = λ kept. subst (λ (ms : DiscoveryTree). HasDiscovered h.test (ts ++ made a x) ms) (sym k.discovery_tree) (meet_made h.test ts m.discovery_tree.met a x (t.met kept));
    heads = λ kinds q. heads_made kinds (touched_by T) h.test ts n.heads.classes n.heads.marks a x (subst (λ (j : ℕ). HeadsStand kinds (touched_by T) j (ts ++ write_of (place.Head a) ∷ []) n.heads) f.test
        (k.heads kinds (touched_by T) ts (write_of (place.Head a)) a refl (last kinds (λ j o l. q j o (rw k.world l) ∙ ap (λ (z : World). (object_at z o).head.kind) k.world) m.test)
        (subst (λ (j : ℕ). HeadsStand kinds (touched_by T) j ts m.heads) (sym f.test) (t.heads kinds (before kinds (λ j o l. q j o (rw k.world l) ∙ ap (λ (z : World). (object_at z o).head.kind) k.world))))));
    each = ap (λ (xs : List Ended). length xs) k.ended ∙ t.each;
    ended = λ j y e. subst (λ (ls : List Location). IsEnded (keeps_walks W) T ls (j + 1) y) (sym k.names) (t.ended j y (subst (λ (xs : List Ended). slice_get xs j ≡ Some y) k.ended e));
  };
}
  where
    w : World
    w = m.memory.world

    v : World
    v = make_object m.memory.world x

    a : ℕ
    a = size m.memory.world

    longer : size v ≡ suc a
    longer = let l = length-append m.memory.world.objects (x ∷ []) in omega arith

    last : (kinds : ℕ → ℕ → Kind) → AreKinds kinds v → (u : ℕ) → kinds u a ≡ x.head.kind
    last kinds q u = let l = longer in q u a (omega arith) ∙ ap (λ (y : Object). y.head.kind) (get_or-append_seam m.memory.world.objects x [] no_object)

    before : (kinds : ℕ → ℕ → Kind) → AreKinds kinds v → AreKinds kinds w
    before kinds q u o l = let i = longer in q u o (omega arith) ∙ ap (λ (y : Object). y.head.kind) (get_or_append_left m.memory.world.objects (x ∷ []) no_object o l)

-- what a new object writes was noted
pub made_told : (w : World) (names : List Location) (k : Numbers) (a b : Tags) (o : ℕ) (p : Program) (x : Head) → o ≡ size w → k.places ≡ p →
    ((v : World) (names : List Location) → IsNumbered v k → o < size v → object_at v o ≡ blank k.places x → HaveNoted (numbering_in v names) a b (made o (blank k.places x))) →
    IsNumbered (make_object w (blank p x)) k → HaveNoted (numbering_in (make_object w (blank p x)) names) a b (made (size w) (blank p x))
made_told w names k a b o p x e q told i =
    let y = blank p x in let v = make_object w y in
    let l = length-append w.objects (y ∷ []) in
    let h : object_at v o ≡ blank k.places x = ap (λ (j : ℕ). object_at v j) e ∙ (get_or-append_seam w.objects y [] no_object ∙ ap (λ (z : Program). blank z x) (sym q)) in
    subst (λ (j : ℕ). HaveNoted (numbering_in v names) a b (made j y)) e (subst (λ (z : Program). HaveNoted (numbering_in v names) a b (made o (blank z x))) q (told v names i (omega arith) h))
