-- The program without quiet initialisers has openings by their types.
use Rattle.std.proofs.Common.{◌≡◌, ◌≢◌, ℕ, suc, ◌+◌, ◌<◌, List, [], ◌∷◌, length, get_or, map, codes, All, Bool, true, false, ◌&&◌, ◌||◌, cond, nat_eq, nat_le, Option, Some, None, IfSome, refl, sym, ◌∙◌, ap, subst, inl, inr, arith}
use Rattle.std.specs.{List.list_any, List.range_with_len, Str.bytes_eq}
use Rattle.std.proofs.{lemmas.Bool.and_parts, lemmas.Bool.or_cases, lemmas.Bool.eqb-true, Math.ListN.get_or-map}
use Rattle.jvm_model.specs.declared.{values.Value.Value, values.InitState.TheVariants.Running, instr.Instr.Instr}
use Rattle.jvm_model.specs.declared.values.Value.TheVariants as value
use Rattle.jvm_model.specs.declared.values.Location.TheVariants as place
use Rattle.jvm_model.specs.declared.instr.Instr.TheVariants as form
use Rattle.jvm_model.specs.declared.program.{Body.Body, ClassRec.ClassRec, FieldRec.FieldRec, Placed.Placed, Program.Program}
use Rattle.jvm_model.specs.{World.World, World.at, Narrow.narrowed, Step.row, Suite.opening}
use Rattle.jvm_model.specs.{Access.Access, Access.write, Access.Ran, Access.run, Entries.Entry, Entries.Entries, Entries.entries_of, Entries.frame_of}
use Rattle.jvm_model.specs.Classes.{no_class, no_field, class_at, field_at, method_at, is_static, is_interface, is_trivial, default_of}
use Rattle.jvm_model.specs.Linked.{IsField, IsMethod, IsFormKind, IsBodyKind, HasOpenings, class_descriptor, takes, opens}
use Rattle.jvm_model.specs.{Rows.Answer, Rows.goes_on, Rows.popping, RowsStatics.read_static, RowsStatics.write_static, RowsStatics.row_statics}
use Rattle.jvm_model.proofs.Locations.{at_put_same, at_put_other}
use Rattle.type_frames.specs.Typing.{IsTyped}
use Rattle.check_sound.proofs.InitRows.{nontrivial_class}
use Rattle.quiet_init.specs.Quiet.{is_calm, is_own, is_still, no_handler, is_still_body, starts_still, is_still_start, is_quiet, goes_with, left_after, begun_world, left_by_start, left_by_body, left_by, quiet_class, quiet}
use Rattle.quiet_init.proofs.Still.{Both, both_go, both_stuck, calm_row, still_row, used, end_world}
use Rattle.quiet_init.proofs.{Parts.field_count, Parts.field_is, Trivials.quiet_loud, Walk.left_law}

-- ---- what a field of instances opens with stays

module _ (p : Program) (c : ℕ) (n : is_trivial p c ≡ false) (g : ℕ) (inst : is_static (field_at p g).flags ≡ false) where
  calm_world : {b : List Entry} {s : Entries} {x y : Access (Answer Entries)} (w : World) → Both p b s x y → (run x w).world ≡ w
  calm_world w (both_go vs) = refl
  calm_world w both_stuck = refl

  put_stays : (f : ℕ) (s : Entries) (w : World) (vs : List Value) → is_static (field_at p f).flags ≡ true →
      at (run (popping vs (λ v us. write (place.Static f) (narrowed (field_at p f).descriptor v) (goes_on p s us))) w).world (place.Static g) ≡ at w (place.Static g)
  put_stays f s w [] h = refl
  put_stays f s w (v ∷ vs) h = at_put_other w (place.Static f) (place.Static g) (narrowed (field_at p f).descriptor v) apart
    where
      apart : place.Static g ≢ place.Static f
      apart e = let q : g ≡ f = cc in let z : true ≡ false = sym h ∙ (ap (λ (k : ℕ). is_static (field_at p k).flags) (sym q) ∙ inst) in cc

  own_stays : (d : ℕ) (i : Instr) (s : Entries) (w : World) → is_own p c i ≡ true → IsFormKind p d i → at w (place.Init c) ≡ Running → at (run (row p i s) w).world (place.Static g) ≡ at w (place.Static g)
  unfolding row row_statics read_static write_static
  own_stays d (form.GetStatic f) s w e k i =
      let q = eqb-true (field_at p f).class c e in
      ap (λ (r : Ran (Answer Entries)). at r.world (place.Static g)) (used p (field_at p f).class s (read_static p f s) w (subst (λ (x : ℕ). is_trivial p x ≡ false) (sym q) n) (subst (λ (x : ℕ). at w (place.Init x) ≡ Running) (sym q) i))
  own_stays d (form.PutStatic f) s w e k i =
      let q = eqb-true (field_at p f).class c e in
      ap (λ (r : Ran (Answer Entries)). at r.world (place.Static g)) (used p (field_at p f).class s (write_static p f s) w (subst (λ (x : ℕ). is_trivial p x ≡ false) (sym q) n) (subst (λ (x : ℕ). at w (place.Init x) ≡ Running) (sym q) i))
      ∙ put_stays f s w s.top.stack k
  own_stays d _ s w e k i = absurd (cc)

  row_stays : (d : ℕ) (i : Instr) (s : Entries) (w : World) → (is_calm i || is_own p c i) ≡ true → IsFormKind p d i → at w (place.Init c) ≡ Running → at (run (row p i s) w).world (place.Static g) ≡ at w (place.Static g)
  row_stays d i s w e k h = elim (or_cases (is_calm i) (is_own p c i) e) [
    | inl q ↦ ap (λ (v : World). at v (place.Static g)) (calm_world w (calm_row p s.below s i q))
    | inr q ↦ own_stays d i s w q k h
  ]

  stays : (d : ℕ) (xs : List Placed) (s : Entries) (w : World) → is_still p c xs ≡ true → All (λ x. IsFormKind p d x.form) xs → at w (place.Init c) ≡ Running → at (left_after p xs s w) (place.Static g) ≡ at w (place.Static g)
  stays d [] s w e a i = absurd (cc)
  stays d (x ∷ []) s w e a i = ap (λ (v : World). at v (place.Static g)) (end_world p x.form s w e)
  stays d (x ∷ y ∷ ys) s w e a i =
      let h = and_parts (is_calm x.form || is_own p c x.form) (is_still p c (y ∷ ys)) e in
      let l = still_row p c n s.below s w w (record { left = i; right = i; own = λ f q. refl }) x.form h.0 in
      let r = run (row p x.form s) w in
      stays d (y ∷ ys) (goes_with s r.value) r.world h.1 (λ k z m. a (suc k) z (omega arith)) l.twin.left ∙ row_stays d x.form s w h.0 (a 0 x (omega arith)) i

module _ (p : Program) (ty : IsTyped p) (c : ℕ) (q : is_quiet p c ≡ true) (g : ℕ) (inst : is_static (field_at p g).flags ≡ false) where
  n : is_trivial p c ≡ false
  n = quiet_loud p c q

  opened : at (begun_world p c) (place.Static g) ≡ (field_at p g).opening
  unfolding opening
  opened = get_or-map (λ (x : FieldRec). x.opening) p.fields g no_field

  of_body : (m : ℕ) (o : Option Body) → (class_at p c).initialiser ≡ Some m → (method_at p m).body ≡ o → IsMethod p m → is_still_body p c o ≡ true → at (left_by p c) (place.Static g) ≡ (field_at p g).opening
  unfolding left_by opening
  of_body m None e f i h = absurd (cc)
  of_body m (Some b) e f i h =
      let k : IsBodyKind p (method_at p m).class b = subst (λ (o : Option Body). IfSome o (λ b. IsBodyKind p (method_at p m).class b)) f (ty.linked.kinds.bodies m i) in
      ap (λ (w : World). at w (place.Static g)) (ap (λ (z : Option ℕ). left_by_start p c z) e ∙ ap (λ (z : Option Body). left_by_body p c m z) f)
      ∙ (stays p c n g inst (method_at p m).class b.code (entries_of (frame_of b m [] ∷ [])) (begun_world p c) (and_parts (no_handler b.handlers) (is_still p c b.code) h).1 k.forms (at_put_same (opening p) (place.Init c) Running refl)
      ∙ opened)

  of_start : (o : Option ℕ) → (class_at p c).initialiser ≡ o → starts_still p c o ≡ true → at (left_by p c) (place.Static g) ≡ (field_at p g).opening
  of_start None e h = absurd (cc)
  of_start (Some m) e h = of_body m (method_at p m).body e refl (subst (λ (o : Option ℕ). IfSome o (λ m. IsMethod p m)) e (ty.linked.numbers.classes c (nontrivial_class p ty.linked c n)).initialiser) h

  instance_stays : at (left_by p c) (place.Static g) ≡ (field_at p g).opening
  unfolding is_quiet
  instance_stays = of_start (class_at p c).initialiser refl (and_parts (is_still_start p c) _ q).0

-- ---- what opens a field is the same

any_range : {X : Type 0} (f : X → Bool) (h : ℕ → X) (xs : List X) (k : ℕ) (d : X) → ((i : ℕ) → i < length xs → f (h (k + i)) ≡ f (get_or xs i d)) → list_any f (map h (range_with_len k (length xs))) ≡ list_any f xs
any_range f h [] k d e = refl
any_range f h (x ∷ xs) k d e =
    ap (λ (b : Bool). b || list_any f (map h (range_with_len (k + 1) (length xs)))) (let z : k + 0 ≡ k = omega arith in ap (λ (j : ℕ). f (h j)) (sym z) ∙ e 0 (omega arith))
    ∙ ap (λ (b : Bool). f x || b) (any_range f h xs (k + 1) d (λ i l. (let z : k + 1 + i ≡ k + suc i = omega arith in ap (λ (j : ℕ). f (h j)) z) ∙ e (suc i) (omega arith)))

module _ (p : Program) where
  any_kept : (f : ClassRec → Bool) → ((x : ClassRec) → f (record x { initialiser = None }) ≡ f x) → list_any f (quiet p).classes ≡ list_any f p.classes
  unfolding quiet
  any_kept f h = any_range f (quiet_class p) p.classes 0 no_class (λ i l. (let z : 0 + i ≡ i = omega arith in ap (λ (j : ℕ). f (quiet_class p j)) z) ∙ by (is_quiet p i) i)
    where
      by : (b : Bool) (i : ℕ) → f (cond b (record (class_at p i) { initialiser = None }) (class_at p i)) ≡ f (class_at p i)
      by true i = h (class_at p i)
      by false i = refl

  takes_kept : (t name : List ℕ) → takes (quiet p) t name ≡ takes p t name
  takes_kept t name = ap (λ (b : Bool). bytes_eq t (class_descriptor name) || (bytes_eq t (codes "Ljava/lang/Object;") || b)) (any_kept (λ (c : ClassRec). is_interface c.flags && bytes_eq t (class_descriptor c.name)) (λ x. refl))

  opens_kept : (t : List ℕ) (v : Value) → opens (quiet p) t v ≡ opens p t v
  unfolding quiet
  opens_kept t (value.Lit n) = ap (λ (b : Bool). cond (nat_eq n 0) b (nat_le n (length p.literals) && takes (quiet p) t (codes "java/lang/String"))) (takes_kept t (codes "java/io/PrintStream"))
      ∙ ap (λ (b : Bool). cond (nat_eq n 0) (takes p t (codes "java/io/PrintStream")) (nat_le n (length p.literals) && b)) (takes_kept t (codes "java/lang/String"))
  opens_kept t _ = refl

  is_field : (f : ℕ) → IsField (quiet p) f → IsField p f
  is_field f h = let e = field_count p in omega arith

pub openings_kept : (p : Program) → IsTyped p → HasOpenings (quiet p)
openings_kept p ty = record {
  values = λ f i. let h = is_field p f i in subst (λ (x : FieldRec). opens (quiet p) x.descriptor x.opening ≡ true) (sym (field_is p f h)) (value f h (is_quiet p (field_at p f).class) refl);
  defaults = λ f i s. let h = is_field p f i in
      subst (λ (x : FieldRec). is_static x.flags ≡ false → x.opening ≡ default_of x.descriptor) (sym (field_is p f h)) (default f h (is_quiet p (field_at p f).class) refl) s;
}
  where
    value : (f : ℕ) → IsField p f → (b : Bool) → is_quiet p (field_at p f).class ≡ b →
        opens (quiet p) (cond b (record (field_at p f) { opening = at (left_by p (field_at p f).class) (place.Static f) }) (field_at p f)).descriptor (cond b (record (field_at p f) { opening = at (left_by p (field_at p f).class) (place.Static f) }) (field_at p f)).opening ≡ true
    value f h true q = opens_kept p (field_at p f).descriptor (at (left_by p (field_at p f).class) (place.Static f)) ∙ (left_law p (field_at p f).class ty q).opening f h
    value f h false q = opens_kept p (field_at p f).descriptor (field_at p f).opening ∙ ty.linked.openings.values f h

    default : (f : ℕ) → IsField p f → (b : Bool) → is_quiet p (field_at p f).class ≡ b →
        is_static (cond b (record (field_at p f) { opening = at (left_by p (field_at p f).class) (place.Static f) }) (field_at p f)).flags ≡ false →
        (cond b (record (field_at p f) { opening = at (left_by p (field_at p f).class) (place.Static f) }) (field_at p f)).opening ≡ default_of (cond b (record (field_at p f) { opening = at (left_by p (field_at p f).class) (place.Static f) }) (field_at p f)).descriptor
    default f h true q s = instance_stays p ty (field_at p f).class q f s ∙ ty.linked.openings.defaults f h s
    default f h false q s = ty.linked.openings.defaults f h s
