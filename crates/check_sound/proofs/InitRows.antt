-- Steps on an initialisation entry, and a throwable that is raised into one.
use Rattle.std.proofs.Common.{◌≡◌, ℕ, ◌+◌, ◌<◌, List, [], ◌∷◌, ◌++◌, length, map, Bool, true, false, not, ◌&&◌, cond, nat_eq, Option, Some, None, IfSome, IsSome, is_some, refl, sym, ◌∙◌, ap, subst, arith, inl, inr}
use Rattle.std.specs.Prelude.{flat_map, filter}
use Rattle.std.specs.List.{list_all, list_any, IsDistinct, AllByRecursion}
use Rattle.std.proofs.lemmas.Bool.{cases_Bool, cases_lt, or_left, or_right, eqb-true, eq-eqb}
use Rattle.std.proofs.lemmas.{List.get_or_past, Map.Keys.IsDistinct-cons}
use Rattle.jvm_model.specs.declared.values.{Value.Value, Kind.Kind, InitState.InitState}
use Rattle.jvm_model.specs.declared.values.Value.TheVariants as value
use Rattle.jvm_model.specs.declared.values.InitState.TheVariants.{Idle, Running, Done, Erroneous}
use Rattle.jvm_model.specs.declared.values.Location.TheVariants as place
use Rattle.jvm_model.specs.declared.state.{EntryKind.EntryKind, EntryKind.TheVariants.Absent, EntryKind.TheVariants.InMethod, EntryKind.TheVariants.InClass}
use Rattle.jvm_model.specs.declared.program.{Program.Program, ClassRec.ClassRec, Body.Body}
use Rattle.jvm_model.specs.World.{World, size, at, put, make_object}
use Rattle.jvm_model.specs.Builtin.{throwable_class, initializer_error, no_class_error, stack_overflow_error, error_class}
use Rattle.jvm_model.specs.Linked.{Linked, IsClass, IsInitialiser}
use Rattle.jvm_model.specs.Classes.{no_class, class_at, method_at, is_interface, is_below, is_trivial, declares_start, default_interfaces, own_interfaces, first_mentions, is_default_method, lineage_in, class_bound, upwards, member, blank, instance_head}
use Rattle.jvm_model.specs.{Descriptors.parameters, Kinds.class_of, Rows.answer}
use Rattle.jvm_model.specs.Entries.{Entry, Entries, all_entries, is_full, entry_limit, popped_entry, entries_of, class_entry, with_entry, frame_of}
use Rattle.jvm_model.specs.Initialise.{Part, parts_of, superclass_part, with_entered, starts_body, starts, looked_at, looks, left_at, finished, finishing, row_finish, fails, fails_anew, was_entered, row_fail}
use Rattle.jvm_model.proofs.{Locations.same_false, Locations.at_put_same, Locations.at_put_other, Locations.size_make, Upwards.upwards_root}
use Rattle.type_frames.specs.declared.vtype.{VType.VType, VType.TheVariants.Object, VType.TheVariants.UninitThis}
use Rattle.type_frames.specs.{Frames.spread, Descriptors.types_of, Descriptors.name_of, Given.is_constructor, Given.entry_types, Typing.IsTyped}
use Rattle.type_frames.specs.TypedState.{kind_at, HaveTypes, Initialises, IsTop, IsBelow, AllBelow, class_begun, IsThrowable}
use Rattle.check_sound.proofs.Tree.{Tree, typed_done, typed_read, typed_mark, typed_make, typed_spend}
use Rattle.check_sound.proofs.{Grow.throwable_over, WorldKept.mark_over, Operands.choose-typed, Operands.head-typed, Blank.blank_new, Ends.new_kind}
use Rattle.check_sound.proofs.Ready.{TypedEntries, stub, Rest, IsEntry, Opened, opened, closed, below_same, Ends, Quiet, Row}
use Rattle.check_sound.proofs.Onward.{StayRunning, rest_kept, grows_begin, grows_make, entries_grow, running_in, differs, not_full}
use Rattle.check_sound.proofs.Thrown.{thrown}
use Rattle.check_sound.proofs.{RaiseRows.beneath, RaiseRows.none_typed, RaiseRows.raised_below, Arguments.EntersWith, Arguments.entered_frame}

-- ---- a class that isn't trivial is one

module _ (p : Program) (lk : Linked p) where
  no_defaults : (c : ℕ) → class_at p c ≡ no_class → default_interfaces p c ≡ []
  unfolding default_interfaces own_interfaces
  no_defaults c e = ap (λ (x : ClassRec). filter (λ i. list_any (λ m. is_default_method (method_at p m)) (class_at p i).methods) (first_mentions (flat_map (λ j. lineage_in p class_bound j) x.interfaces))) e

  past_trivial : (c : ℕ) → class_at p c ≡ no_class → is_trivial p c ≡ true
  unfolding is_trivial
  past_trivial c e =
      ap (λ (x : ClassRec). cond (is_interface x.flags) (not (declares_start p c)) (list_all (λ d. not (declares_start p d) && list_all (λ i. not (declares_start p i)) (default_interfaces p d)) (upwards p c))) e
      ∙ (ap (λ (cs : List ℕ). list_all (λ d. not (declares_start p d) && list_all (λ i. not (declares_start p i)) (default_interfaces p d)) cs) (upwards_root p lk c (ap (λ (x : ClassRec). x.superclass) e))
      ∙ (ap (λ (x : ClassRec). (not (is_some x.initialiser) && list_all (λ i. not (declares_start p i)) (default_interfaces p c)) && true) e
      ∙ ap (λ (ds : List ℕ). list_all (λ i. not (declares_start p i)) ds && true) (no_defaults c e)))

  pub nontrivial_class : (c : ℕ) → is_trivial p c ≡ false → IsClass p c
  nontrivial_class c n = elim (cases_lt c (length p.classes)) [
    | inl l ↦ l
    | inr g ↦ absurd (let z : true ≡ false = sym (past_trivial c (get_or_past p.classes c no_class g)) ∙ n in cc)
  ]

-- ---- the entries below one of a class

stay_other : (w : World) (n : ℕ) (s : InitState) (cs : List ℕ) → AllByRecursion (λ d. nat_eq n d ≡ false) cs → StayRunning w (put w (place.Init n) s) cs
stay_other w n s [] h = tt
stay_other w n s (c ∷ cs) h = ((λ e. at_put_other w (place.Init n) (place.Init c) s (same_false (place.Init c) (place.Init n) (turn c n h.0)) ∙ e), stay_other w n s cs h.1)
  where
    turn : (a b : ℕ) → nat_eq b a ≡ false → nat_eq a b ≡ false
    turn a b q = elim (cases_Bool (nat_eq a b)) [ inr e ↦ e | inl e ↦ absurd (let z : nat_eq b a ≡ true = eq-eqb b a (sym (eqb-true a b e)) in let y : true ≡ false = sym z ∙ q in cc) ]

-- its class may be written
written_rest : {p : Program} {w : World} {b : Bool} {n : ℕ} (s : InitState) (fs : List Entry) → Rest p w (InClass b) n fs → Rest p (put w (place.Init n) s) (InClass b) n fs
unfolding IsDistinct
written_rest {p = p} {w = w} {n = n} s fs r = rest_kept p w (put w (place.Init n) s) (mark_over p w n s) fs (stay_other w n s (flat_map class_begun fs) r.apart.0) r

-- what waited for the class goes on
resumed : {p : Program} {w : World} {b : Bool} {n : ℕ} (fs : List Entry) → Rest p w (InClass b) n fs → TypedEntries p w None (entries_of fs)
resumed [] r = none_typed None
resumed {p = p} {w = w} {b = b} {n = n} (f ∷ fs) r =
    let k = beneath r in
    let t = goes f.kind k.is in
    closed None f t.0 t.1 k.stack k.locals k.rest
  where
    goes : (i : EntryKind) → IsBelow p w f i (stub (InClass b) n) (InClass b) → IsEntry i × IsTop p w None i f
    goes InMethod h = (tt, h)
    goes (InClass x) h = (tt, h.0)
    goes Absent h = absurd h

-- its `<clinit>` was entered, or there is none to enter
entered_rest : {p : Program} {w : World} {n : ℕ} (fs : List Entry) → Rest p w (InClass false) n fs → Rest p w (InClass true) n fs
entered_rest {p = p} {w = w} {n = n} fs r = record { each = by fs r.each; range = r.range; few = r.few; apart = r.apart }
  where
    one : (f : Entry) (i : EntryKind) → IsBelow p w f i (stub (InClass false) n) (InClass false) → IsBelow p w f i (stub (InClass true) n) (InClass true)
    one f (InClass true) h = absurd h.1
    one f Absent h = absurd h
    one f _ h = h

    by : (fs : List Entry) → AllBelow p w (stub (InClass false) n) fs → AllBelow p w (stub (InClass true) n) fs
    by [] h = tt
    by (f ∷ fs) h = (one f f.kind h.0, h.1)

all_of : (s : Entries) (b : Bool) → s.top.kind ≡ InClass b → all_entries s ≡ s.top ∷ s.below
all_of s b q = ap (λ (k : EntryKind). elim k as (λ x. List Entry) [ Absent ↦ s.below | InMethod ↦ s.top ∷ s.below | InClass b ↦ s.top ∷ s.below ]) q

-- ---- parts

-- a part is a class, and not trivial
abbrev AreNontrivial : Program → List Part → Type 0
AreNontrivial p [] = Unit {0}
AreNontrivial p (x ∷ xs) = (is_trivial p x.class ≡ false) × AreNontrivial p xs

filtered_parts : (p : Program) (xs : List Part) → AreNontrivial p (filter (λ x. not (is_trivial p x.class)) xs)
filtered_parts p [] = tt
filtered_parts p (x ∷ xs) = by (is_trivial p x.class) refl (filtered_parts p xs)
  where
    by : (b : Bool) → is_trivial p x.class ≡ b → AreNontrivial p (filter (λ x. not (is_trivial p x.class)) xs) → AreNontrivial p (cond (not b) (x ∷ filter (λ x. not (is_trivial p x.class)) xs) (filter (λ x. not (is_trivial p x.class)) xs))
    by true q k = k
    by false q k = (q, k)

parts_nontrivial : (p : Program) (c : ℕ) → AreNontrivial p (parts_of p c)
unfolding parts_of
parts_nontrivial p c = by (is_interface (class_at p c).flags)
  where
    by : (b : Bool) → AreNontrivial p (cond b [] (filter (λ x. not (is_trivial p x.class)) (superclass_part (class_at p c).superclass ++ map (λ i. record { class = i; price = 1 }) (default_interfaces p c))))
    by true = tt
    by false = filtered_parts p _

module _ (p : Program) (ty : IsTyped p) {w : World} {s : Entries} (b : Bool) (k : s.top.kind ≡ InClass b) (t : TypedEntries p w None s) where
  standing : IsEntry s.top.kind
  standing = subst (λ (x : EntryKind). IsEntry x) (sym k) tt

  below : Opened p w s.top s.below
  below = opened None s standing t

  initialises : Initialises p w s.top
  initialises = subst (λ (x : EntryKind). IsTop p w None x s.top) k t.top

  rest_below : Rest p w (InClass b) s.top.number s.below
  rest_below = subst (λ (x : EntryKind). Rest p w x s.top.number s.below) k below.rest

  own_class : IsClass p s.top.number
  own_class = nontrivial_class p ty.linked s.top.number initialises.not_trivial

  -- something may be raised into the entry
  faulted : (v : Value) → TypedEntries p w (Some v) s
  faulted v = record { references = t.references; few = t.few; alone = t.alone; top = subst (λ (x : EntryKind). IsTop p w (Some v) x s.top) (sym k) initialises; below = t.below; one_each = t.one_each }

  finished-typed : Row p w (finished s)
  finished-typed = typed_mark own_class (typed_done (by (popped_entry s).top.kind))
    where
      by : (x : EntryKind) → Ends p (put w (place.Init s.top.number) Done) (answer (left_at x) (popped_entry s))
      by Absent = resumed s.below (written_rest Done s.below rest_below)
      by _ = resumed s.below (written_rest Done s.below rest_below)

module _ (p : Program) (ty : IsTyped p) {w : World} {s : Entries} (k : s.top.kind ≡ InClass false) (t : TypedEntries p w None s) where
  few_below : is_full s ≡ false → length (s.top ∷ s.below) < entry_limit
  few_below f = not_full s f (all_of s false k)

  entered : Entry
  entered = record s.top { kind = InClass true }

  -- an entry under which the class of a part is begun
  part_begun : (c : ℕ) → member c (map (λ x. x.class) (parts_of p s.top.number)) ≡ true → is_trivial p c ≡ false → is_full s ≡ false → at w (place.Init c) ≡ Idle → TypedEntries p (put w (place.Init c) Running) None (with_entry (class_entry c) s)
  part_begun c m n f q =
      let v = put w (place.Init c) Running in
      let g = grows_begin p w c in
      let e = entries_grow None s g t in
      let o = opened None s (standing p ty false k t) e in
      let i : Initialises p v s.top = subst (λ (x : EntryKind). IsTop p v None x s.top) k e.top in
      let first : nat_eq c s.top.number ≡ false = differs p w s.top c (initialises p ty false k t) q in
      subst (λ (fs : List Entry). TypedEntries p v None (record { top = class_entry c; below = fs })) (sym (all_of s false k))
      (closed None (class_entry c) tt (record { not_trivial = n; running = at_put_same w (place.Init c) Running refl }) tt tt (record {
        each = (subst (λ (x : EntryKind). IsBelow p v s.top x (stub (InClass false) c) (InClass false)) (sym k) (i, m), e.below);
        range = (o.stack, o.locals, o.rest.range);
        few = few_below f;
        apart = IsDistinct-cons nat_eq c (flat_map class_begun (s.top ∷ s.below))
            (subst (λ (x : EntryKind). AllByRecursion (λ d. nat_eq c d ≡ false) (elim x as (λ x. List ℕ) [ Absent ↦ [] | InMethod ↦ [] | InClass b ↦ s.top.number ∷ [] ] ++ flat_map class_begun s.below)) (sym k) (first, running_in p w s.top s.below t.below c q))
            (subst (λ (es : List Entry). IsDistinct nat_eq (flat_map class_begun es)) (all_of s false k) t.one_each);
      }))

  -- no `<clinit>` is to be entered
  entered_typed : TypedEntries p w None (with_entered s)
  unfolding entered
  entered_typed = closed None entered tt (initialises_as entered) (below p ty false k t).stack (below p ty false k t).locals (entered_rest s.below (rest_below p ty false k t))
    where
      initialises_as : (e : Entry) → Initialises p w (record s.top { kind = InClass true })
      initialises_as e = let i = initialises p ty false k t in record { not_trivial = i.not_trivial; running = i.running }

  -- `<clinit>` is entered
  clinit_typed : (m : ℕ) (b : Body) → (class_at p s.top.number).initialiser ≡ Some m → IsInitialiser p s.top.number m → (method_at p m).body ≡ Some b → is_full s ≡ false → TypedEntries p w None (with_entry (frame_of b m []) (with_entered s))
  unfolding parameters
  clinit_typed m b q i hb f =
      let enters : EntersWith p w m [] = λ e c. subst (λ (ts : List VType). HaveTypes p w e (spread ts) []) (sym (no_types m i)) tt in
      let e = entered_frame p ty w m b [] hb enters tt in
      let j = initialises p ty false k t in
      let r = entered_rest s.below (rest_below p ty false k t) in
      closed None (frame_of b m []) tt e.goes tt e.range (record {
        each = ((record { not_trivial = j.not_trivial; running = j.running }, q), below_same p w (stub (InClass true) s.top.number) (record s.top { kind = InClass true }) refl refl s.below r.each);
        range = ((below p ty false k t).stack, (below p ty false k t).locals, r.range);
        few = few_below f;
        apart = r.apart;
      })
    where
      no_types : (m : ℕ) → IsInitialiser p s.top.number m → entry_types p (method_at p m) ≡ []
      no_types m i = ap (λ (x : Bool). elim x as (λ z. List VType) [ true ↦ [] | false ↦ elim (is_constructor (method_at p m)) as (λ z. List VType) [ true ↦ UninitThis ∷ [] | false ↦ Object (name_of p (method_at p m).class) ∷ [] ] ] ++ flat_map types_of (parameters (method_at p m).descriptor)) i.static ∙ ap (λ (d : List ℕ). flat_map types_of (parameters d)) i.descriptor

  starts-typed : (x : Option ℕ) (n : ℕ) → (class_at p s.top.number).initialiser ≡ x → Row p w (starts p x n s)
  starts-typed None n q = typed_spend (typed_done entered_typed)
  starts-typed (Some m) n q =
      let i : IsInitialiser p s.top.number m = subst (λ (o : Option ℕ). IfSome o (λ m. IsInitialiser p s.top.number m)) q (ty.linked.listed.initialisers s.top.number (own_class p ty false k t)) in
      by (method_at p m).body refl i.code i
    where
      by : (b : Option Body) → (method_at p m).body ≡ b → IsSome b → IsInitialiser p s.top.number m → Row p w (starts_body b m n s)
      by None hb c i = absurd (let z : false ≡ true = c in cc)
      by (Some b) hb c i = choose-typed p (Ends p) w (is_full s) (λ e. typed_spend (typed_done (thrown p ty.linked stack_overflow_error refl, faulted p ty false k t value.Null)))
          (λ e. typed_spend (typed_done (clinit_typed m b q i hb e)))

  -- the parts one by one
  looks-typed : (xs : List Part) (n : ℕ) → AreNontrivial p xs → ((c : ℕ) → member c (map (λ x. x.class) xs) ≡ true → member c (map (λ x. x.class) (parts_of p s.top.number)) ≡ true) → Row p w (looks p xs n s)
  looks-typed [] n a f = starts-typed (class_at p s.top.number).initialiser n refl
  looks-typed (x ∷ xs) n a f = typed_read (nontrivial_class p ty.linked x.class a.0) (λ st e. by st e (looks-typed xs (n + x.price) a.1 (λ c m. f c (or_right (nat_eq c x.class) (member c (map (λ x. x.class) xs)) m))))
    where
      by : (st : InitState) → st ≡ at w (place.Init x.class) → Row p w (looks p xs (n + x.price) s) → Row p w (looked_at x.class (n + x.price) s (looks p xs (n + x.price) s) st)
      by Idle e r = choose-typed p (Ends p) w (is_full s) (λ q. typed_spend (typed_done (thrown p ty.linked stack_overflow_error refl, faulted p ty false k t value.Null)))
          (λ q. typed_spend (typed_mark (nontrivial_class p ty.linked x.class a.0) (typed_done (part_begun x.class (f x.class (or_left (nat_eq x.class x.class) (member x.class (map (λ x. x.class) xs)) (eq-eqb x.class x.class refl))) a.0 q (sym e)))))
      by Erroneous e r = typed_spend (typed_done (thrown p ty.linked no_class_error refl, faulted p ty false k t value.Null))
      by _ e r = r

module _ (p : Program) (ty : IsTyped p) {w : World} {s : Entries} where
  pub finish-typed : (b : Bool) → s.top.kind ≡ InClass b → TypedEntries p w None s → Row p w (row_finish p s)
  unfolding row_finish
  finish-typed false k t = subst (λ (x : EntryKind). Row p w (finishing x p s)) (sym k) (looks-typed p ty k t (parts_of p s.top.number) 0 (parts_nontrivial p s.top.number) (λ c m. m))
  finish-typed true k t = subst (λ (x : EntryKind). Row p w (finishing x p s)) (sym k) (finished-typed p ty true k t)

  -- the entry as it stands where nothing is raised
  quiet : (b : Bool) (v : Value) → s.top.kind ≡ InClass b → TypedEntries p w (Some v) s → TypedEntries p w None s
  quiet b v k t = record { references = t.references; few = t.few; alone = t.alone; top = subst (λ (x : EntryKind). IsTop p w None x s.top) (sym k) (subst (λ (x : EntryKind). IsTop p w (Some v) x s.top) k t.top); below = t.below; one_each = t.one_each }

  fails-typed : (b : Bool) (v : Value) → s.top.kind ≡ InClass b → TypedEntries p w None s → IsThrowable p w v → Tree p (Quiet p) w (fails v s)
  fails-typed b v k t h = typed_mark (own_class p ty b k t) (typed_done (
    throwable_over p w (put w (place.Init s.top.number) Erroneous) (mark_over p w s.top.number Erroneous) v h,
    raised_below v s.below (written_rest Erroneous s.below (rest_below p ty b k t)),
  ))

  fails_anew-typed : (b : Bool) → s.top.kind ≡ InClass b → TypedEntries p w None s → Tree p (Quiet p) w (fails_anew p s)
  unfolding blank
  fails_anew-typed b k t =
      let u = put w (place.Init s.top.number) Erroneous in
      let x = blank p (instance_head initializer_error) in
      let v = make_object u x in
      let o = value.Obj (size u) in
      let i = thrown p ty.linked initializer_error refl in
      let e = raised_below o s.below (written_rest Erroneous s.below (rest_below p ty b k t)) in
      typed_spend (typed_mark (own_class p ty b k t) (typed_make (blank_new p ty u (instance_head initializer_error) i.0) (typed_done (
        ((let z = size_make u x in omega arith), subst (λ (y : Kind). is_below p (class_of y) throwable_class ≡ true) (sym (new_kind p u initializer_error x refl)) i.1),
        entries_grow (Some o) (entries_of s.below) (grows_make p u x) e,
      ))))

  pub fail-typed : (b : Bool) (v : Value) → s.top.kind ≡ InClass b → IsThrowable p w v → TypedEntries p w (Some v) s → Tree p (Quiet p) w (row_fail p v s)
  unfolding row_fail
  fail-typed b (value.Obj o) k h t =
      let q = quiet b (value.Obj o) k t in
      head-typed p (Quiet p) w o h.0 (λ i. choose-typed p (Quiet p) w (was_entered s.top.kind && not (is_below p (class_of (kind_at w o)) error_class)) (λ e. fails_anew-typed b k q) (λ e. fails-typed b (value.Obj o) k q h))
  fail-typed b _ k h t = absurd h
