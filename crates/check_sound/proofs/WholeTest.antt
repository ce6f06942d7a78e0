-- A whole test of checked code, and the world in which the first one begins.
use Rattle.std.proofs.Common.{◌≡◌, ℕ, zero, suc, ◌-◌, ◌<◌, ◌≤◌, List, [], ◌∷◌, ◌++◌, length, take, get_or, Bool, true, false, ◌&&◌, ◌||◌, cond, nat_eq, nat_le, Option, Some, None, refl, sym, ◌∙◌, ap, subst, arith, inl, inr, length-append, All}
use Rattle.std.specs.Prelude.{codes}
use Rattle.std.specs.{List.list_any, Str.bytes_eq}
use Rattle.std.proofs.lemmas.Bool.{and_parts, or_cases, or_right, eqb-true, leb-true}
use Rattle.std.proofs.{lemmas.List.length-map, Math.ListN.get_or-map, lemmas.List.Elements.All-nil, lemmas.List.Elements.All-cons, Math.Seq.take-append_seam}
use Rattle.jvm_model.specs.declared.{values.Touch.Touch, values.Value.Value, values.InitState.TheVariants.Idle, program.Program.Program}
use Rattle.check_sound.proofs.{Blank.null_at, Blank.not_float, Instances.takes_all, Instances.instance_itself, Thrown.object_named, Thrown.builtin_is}
use Rattle.check_sound.proofs.{LibraryTypes.string_named, Tree.Tree, Tree.typed_done, Ends.Local, Ends.TurnsTo}
use Rattle.jvm_model.specs.declared.values.Value.TheVariants as value
use Rattle.jvm_model.specs.declared.values.Kind.TheVariants as kind
use Rattle.jvm_model.specs.{declared.program.ClassRec.ClassRec, declared.program.FieldRec.FieldRec, World.World, Access.run, Rows.constant_kind, Step.step}
use Rattle.jvm_model.specs.{View.IsSafe, Library.builtin_defs, Library.builtin_classes, Builtin.object_class, Builtin.string_class, Builtin.stream_class}
use Rattle.jvm_model.specs.Classes.{no_class, no_field, field_at, is_interface}
use Rattle.jvm_model.specs.Linked.{IsClass, first_or, opens, takes, class_descriptor, is_interface_at}
use Rattle.jvm_model.specs.State.{State, Turn, next, ended, stuck_turn, started, test_at}
use Rattle.jvm_model.specs.Suite.{End, finished, after_step, whole, tree, opening, Given, given_at, one_test, with_first, runs_on}
use Rattle.jvm_model.proofs.BuiltinRules.{builtin_class}
use Rattle.type_frames.specs.declared.vtype.{VType.VType, VType.TheVariants.Object}
use Rattle.type_frames.specs.{Descriptors.types_of, Descriptors.class_name, Descriptors.is_float, Descriptors.name_of, Typing.IsTyped}
use Rattle.type_frames.specs.TypedState.{TypedWorld, IsInstance, IsReferenceOf, IsDeclared}
use Rattle.type_frames.proofs.Started.{started_law}
use Rattle.et_base.proofs.Texts.{units_true}
use Rattle.check_sound.specs.TestLaw.{IsEnd}
use Rattle.check_sound.proofs.TreeRuns.{alike_itself, tree_walk, bind_over}
use Rattle.check_sound.proofs.WholeStep.{Groups, step-typed, local_of}

-- what a test gives is of its run
pub record IsGivenBy (w : World) (ts : List Touch) (n : ℕ) (g : Given) : Type 0 where
  pub world : w ≡ g.world
  pub touches : ts ≡ g.touches
  pub units : n ≡ g.outcome.units

pub given_by : (b : ℕ) (x : Bool) (e : End) (w : World) (ts : List Touch) (n : ℕ) (g : Given) → given_at b x e w ts n ≡ Some g → IsGivenBy w ts n g
given_by b true (finished v o) w ts n g q = by (nat_le n b) q
  where
    by : (c : Bool) → cond c (Some (record { outcome = record { verdict = v; output = o; units = n }; world = w; touches = ts })) None ≡ Some g → IsGivenBy w ts n g
    by true q =
        let z : record { outcome = record { verdict = v; output = o; units = n }; world = w; touches = ts } ≡ g = cc in
        record { world = ap (λ (y : Given). y.world) z; touches = ap (λ (y : Given). y.touches) z; units = ap (λ (y : Given). y.outcome.units) z }
    by false q = absurd (cc)
given_by b _ _ w ts n g q = absurd (cc)

module _ (p : Program) (ty : IsTyped p) (gs : Groups p) where
  EndsWell : World → End → Type 0
  EndsWell w x = IsEnd x

  whole-typed : (n : ℕ) (w : World) (s : State) → Local p w s → Tree p EndsWell w (whole p n s)
  unfolding EndsWell
  whole-typed zero w s h = typed_done tt
  whole-typed (suc n) w s h = bind_over p (TurnsTo p) EndsWell (step p s) (after_step (λ t. whole p n t)) w (step-typed p ty gs w s h) (λ v a g q. by (λ u t k. whole-typed n u t k) v a q)
    where
      by : ((u : World) (t : State) → Local p u t → Tree p EndsWell u (whole p n t)) → (v : World) (a : Turn) → TurnsTo p v a → Tree p EndsWell v (after_step (λ t. whole p n t) a)
      by f v (next t) q = f v t q
      by f v (ended x o) q = typed_done tt
      by f v stuck_turn q = absurd q

  pub test_typed : (t b : ℕ) (w : World) → TypedWorld p w → 0 < t → t ≤ length p.tests → IsSafe IsEnd (tree p t b) w × TypedWorld p (run (tree p t b) w).world
  unfolding tree EndsWell
  test_typed t b w h low high =
      let x = whole-typed (suc b) w (started p t) (local_of p ty gs w (started p t) (started_law p w t h low high)) in
      let y = tree_walk p EndsWell IsEnd (λ v a q. q) (whole p (suc b) (started p t)) w w (alike_itself w) h x in (y.0, y.1.world)

  pub left_typed : (t b : ℕ) (w : World) (g : Given) → TypedWorld p w → 0 < t → t ≤ length p.tests → one_test p w t b ≡ Some g → TypedWorld p g.world
  unfolding one_test
  left_typed t b w g h low high q =
      let r = run (tree p t b) w in
      subst (λ (v : World). TypedWorld p v) (given_by b r.sound r.value r.world r.touches r.units g q).world (test_typed t b w h low high).1

  pub list_typed : (l : List ℕ) (w : World) (xs : List Given) → TypedWorld p w → All (λ t. (0 < t) × (t ≤ length p.tests)) l → runs_on p w l ≡ Some xs → All (λ g. TypedWorld p g.world) xs
  list_typed [] w xs h a q = let z : [] ≡ xs = cc in subst (λ (ys : List Given). All (λ g. TypedWorld p g.world) ys) z (All-nil _)
  list_typed (t ∷ l) w xs h a q = by (one_test p w t (test_at p t).budget) refl q (λ v ys k e. list_typed l v ys k (λ i d lt. a (suc i) d (omega arith)) e)
    where
      first : (0 < t) × (t ≤ length p.tests)
      first = a 0 t (omega arith)

      at_rest : (x : Given) → TypedWorld p x.world → (o : Option (List Given)) → ((ys : List Given) → o ≡ Some ys → All (λ g. TypedWorld p g.world) ys) → with_first x o ≡ Some xs → All (λ g. TypedWorld p g.world) xs
      at_rest x k None f e = absurd (cc)
      at_rest x k (Some ys) f e = let z : x ∷ ys ≡ xs = cc in subst (λ (zs : List Given). All (λ g. TypedWorld p g.world) zs) z (All-cons (λ g. TypedWorld p g.world) x ys k (f ys refl))

      by : (o : Option Given) → one_test p w t (test_at p t).budget ≡ o → elim o as (λ z. Option (List Given)) [ None ↦ None | Some x ↦ with_first x (runs_on p x.world l) ] ≡ Some xs
          → ((v : World) (ys : List Given) → TypedWorld p v → runs_on p v l ≡ Some ys → All (λ g. TypedWorld p g.world) ys) → All (λ g. TypedWorld p g.world) xs
      by None e q f = absurd (cc)
      by (Some x) e q f = let k = left_typed t (test_at p t).budget w x h first.0 first.1 e in at_rest x k (runs_on p x.world l) (λ ys r. f x.world ys k r) q

-- ---- the opening world

-- the type of a class's descriptor
class_type : (name : List ℕ) → types_of (class_descriptor name) ≡ Object name ∷ []
class_type name = ap {B = List VType} (λ a. Object a ∷ []) (name_again name)
  where
    name_again : (name : List ℕ) → class_name (name ++ (59 ∷ [])) ≡ name
    name_again name =
        let l = length-append name (59 ∷ []) in
        let k : length (name ++ (59 ∷ [])) - 1 ≡ length name = omega arith in
        ap (λ (n : ℕ). take n (name ++ (59 ∷ []))) k ∙ take-append_seam name (59 ∷ [])

module _ (p : Program) (ty : IsTyped p) where
  stream_named : name_of p stream_class ≡ codes "java/io/PrintStream"
  unfolding builtin_classes builtin_defs
  stream_named = ap (λ (r : ClassRec). r.name) (builtin_class p ty.linked.builtins 4 (omega arith))

  referred : (w : World) (d a : List ℕ) (n : ℕ) → d ≡ class_descriptor a → n ≤ length p.literals → IsInstance p (constant_kind n) a → IsReferenceOf p w (types_of d) (value.Lit n)
  referred w d a n e h i = subst (λ (ts : List VType). IsReferenceOf p w ts (value.Lit n)) (sym (ap types_of e ∙ class_type a)) (h, i)

  interface_found : (cs : List ClassRec) (d : List ℕ) → list_any (λ c. is_interface c.flags && bytes_eq d (class_descriptor c.name)) cs ≡ true → (k : ℕ) × (k < length cs) × (is_interface (get_or cs k no_class).flags ≡ true) × (d ≡ class_descriptor (get_or cs k no_class).name)
  interface_found [] d e = absurd (cc)
  interface_found (c ∷ cs) d e = elim (or_cases (is_interface c.flags && bytes_eq d (class_descriptor c.name)) (list_any (λ c. is_interface c.flags && bytes_eq d (class_descriptor c.name)) cs) e) [
    | inl q ↦ (let r = and_parts (is_interface c.flags) (bytes_eq d (class_descriptor c.name)) q in (0, omega arith, r.0, units_true d (class_descriptor c.name) r.1))
    | inr q ↦ (let r = interface_found cs d q in let l = r.1 in (suc r.0, omega arith, r.2, r.3))
  ]

  -- a constant object of the class c, whose name this is
  taken : (w : World) (d name : List ℕ) (n c : ℕ) → constant_kind n ≡ kind.Class c → IsClass p c → name_of p c ≡ name → n ≤ length p.literals → takes p d name ≡ true → IsReferenceOf p w (types_of d) (value.Lit n)
  taken w d name n c k i m h t = elim (or_cases (bytes_eq d (class_descriptor name)) (bytes_eq d (codes "Ljava/lang/Object;") || list_any (λ c. is_interface c.flags && bytes_eq d (class_descriptor c.name)) p.classes) t) [
    | inl q ↦ referred w d (name_of p c) n (units_true d (class_descriptor name) q ∙ ap class_descriptor (sym m)) h (subst (λ x. IsInstance p x (name_of p c)) (sym k) (instance_itself p ty.linked c i))
    | inr q ↦ elim (or_cases (bytes_eq d (codes "Ljava/lang/Object;")) (list_any (λ c. is_interface c.flags && bytes_eq d (class_descriptor c.name)) p.classes) q) [
      | inl r ↦ referred w d (name_of p object_class) n (units_true d (codes "Ljava/lang/Object;") r ∙ ap class_descriptor (sym (object_named p ty.linked))) h (takes_all p ty.linked object_class (builtin_is p ty.linked object_class (omega arith)) refl (constant_kind n))
      | inr r ↦ (let x = interface_found p.classes d r in referred w d (name_of p x.0) n x.3 h (takes_all p ty.linked x.0 x.1 (or_right (nat_eq x.0 object_class) (is_interface_at p x.0) x.2) (constant_kind n)))
    ]
  ]

  constant_opening : (w : World) (d : List ℕ) (n : ℕ) → opens p d (value.Lit n) ≡ true → IsReferenceOf p w (types_of d) (value.Lit n)
  constant_opening w d n o = by (nat_eq n 0) refl o
    where
      by : (b : Bool) → nat_eq n 0 ≡ b → cond b (takes p d (codes "java/io/PrintStream")) (nat_le n (length p.literals) && takes p d (codes "java/lang/String")) ≡ true → IsReferenceOf p w (types_of d) (value.Lit n)
      by true q o = taken w d (codes "java/io/PrintStream") n stream_class (ap (λ (b : Bool). kind.Class (cond b stream_class string_class)) q) (builtin_is p ty.linked stream_class (omega arith)) stream_named (let z = eqb-true n 0 q in omega arith) o
      by false q o =
          let r = and_parts (nat_le n (length p.literals)) (takes p d (codes "java/lang/String")) o in
          taken w d (codes "java/lang/String") n string_class (ap (λ (b : Bool). kind.Class (cond b stream_class string_class)) q) (builtin_is p ty.linked string_class (omega arith)) (string_named p ty.linked) (leb-true n (length p.literals) r.0) r.1

  value_opening : (w : World) (d : List ℕ) (v : Value) → is_float d ≡ false → opens p d v ≡ true → IsDeclared p w d v
  value_opening w d (value.Int n) f o = o
  value_opening w d (value.Long n) f o = eqb-true (first_or 0 d) 74 o
  value_opening w d value.Null f o = null_at p ty w d f o
  value_opening w d (value.Lit n) f o = constant_opening w d n o
  value_opening w d (value.Obj n) f o = absurd (let z : false ≡ true = o in cc)

  pub opening_typed : TypedWorld p (opening p)
  unfolding opening
  opening_typed = record {
    statics = λ f i. (
      (let l = length-map p.fields (λ (x : FieldRec). x.opening) in let h : f < length p.fields = i in omega arith),
      subst (λ (v : Value). IsDeclared p (opening p) (field_at p f).descriptor v) (sym (get_or-map (λ (x : FieldRec). x.opening) p.fields f no_field)) (value_opening (opening p) (field_at p f).descriptor (field_at p f).opening (not_float p ty f i) (ty.linked.openings.values f i)),
    );
    states = λ c h. (let l = length-map p.classes (λ (x : ClassRec). Idle) in omega arith);
    kinds = λ o h. absurd (omega arith);
    fields = λ o c f h k m. absurd (omega arith);
    elements = λ o d i b h k m. absurd (omega arith);
  }
