-- Where both do the same on locations that are clear, the worlds stay beside one another.
use Rattle.std.proofs.Common.{◌≡◌, ◌⊎◌, ℕ, ◌<◌, List, length, filter, Bool, true, false, not, ◌&&◌, cond, nat_eq, is_some, refl, sym, ◌∙◌, ap, subst, inl, inr, arith}
use Rattle.std.specs.Prelude.{flat_map}
use Rattle.std.specs.List.{list_all, list_any}
use Rattle.std.proofs.lemmas.{List.get_or_past, Bool.eqb-true, Bool.eq-eqb, Bool.cases_lt}
use Rattle.jvm_model.specs.declared.{values.Value.Value, values.Location.Location, program.ClassRec.ClassRec, program.FieldRec.FieldRec}
use Rattle.jvm_model.specs.declared.values.Value.TheVariants as value
use Rattle.jvm_model.specs.declared.values.Location.TheVariants as place
use Rattle.jvm_model.specs.{declared.program.Program.Program, World.World, World.Content, World.at, Access.Access, Access.run, Builtin.object_class}
use Rattle.jvm_model.specs.{Library.builtin_defs, Library.builtin_classes, Suite.opening}
use Rattle.jvm_model.specs.Classes.{no_field, class_at, field_at, method_at, is_interface, is_trivial, is_default_method, default_interfaces, own_interfaces, first_mentions, lineage_in, class_bound, upwards, declares_start}
use Rattle.jvm_model.proofs.{BuiltinRules.builtin_class, Upwards.upwards_root}
use Rattle.order_law.specs.{Exposed.written, Exposed.exposed, Numbers.same_numbers, Numbers.with_places, Frame.Alike}
use Rattle.order_law.specs.Pairing.{Matching, OneToOne, PairedValue, ints, longs, nulls, literals, objects, PairedLocation, statics, inits, heads, at_field, at_elem, texts, files, props, PairedContent, Paired}
use Rattle.order_law.proofs.{Frame.frame, Leaves.unwritten, Pairs.written-paired, Same.equal_one, Same.self_kind}
use Rattle.quiet_init.specs.Quiet.{quiet}
use Rattle.quiet_init.proofs.{Going.Went, Hushes.Sound, Hushes.starts_none, Trivials.quiet_loud, Trivials.quiet_trivial}
use Rattle.quiet_init.proofs.Beside.{IsHushed, IsPending, IsClear, Beside, at_start, after_going}

-- each number and each place with itself
abbrev pub itself : Matching
itself = with_places same_numbers (λ a b. a ≡ b)

abbrev pub Equal : (L : Location) → Content L → Content L → Type 0
Equal L c d = PairedContent itself L L c d

pub one_place : OneToOne itself.place
one_place = record { from_left = λ a b c x y. sym x ∙ y; from_right = λ a b c x y. x ∙ sym y }

self_number : (n : ℕ) → nat_eq n n ≡ true
self_number n = eq-eqb n n refl

self_location : (L : Location) → PairedLocation itself L L
self_location (place.Static f) = statics (self_number f)
self_location (place.Init c) = inits (self_number c)
self_location (place.Head o) = heads refl
self_location (place.Field o f) = at_field refl (self_number f)
self_location (place.Elem o i) = at_elem i refl
self_location (place.Text o) = texts refl
self_location (place.File n) = files n
self_location (place.Prop n) = props n

location_is : {L M : Location} → PairedLocation itself L M → L ≡ M
location_is (statics {f} {g} e) = ap (λ n. place.Static n) (eqb-true f g e)
location_is (inits {c} {d} e) = ap (λ n. place.Init n) (eqb-true c d e)
location_is (heads e) = ap (λ n. place.Head n) e
location_is (at_field {a} {b} {f} {g} e h) = ap (λ n. place.Field n f) e ∙ ap (λ n. place.Field b n) (eqb-true f g h)
location_is (at_elem i e) = ap (λ n. place.Elem n i) e
location_is (texts e) = ap (λ n. place.Text n) e
location_is _ = refl

module _ (p : Program) {A B : Type 0} {Q : A → B → Type 0} {a : Access A} {b : Access B} (same : Paired itself Q a b) (w v : World) (bs : Beside p Equal w v) (ok : (run a w).sound ≡ true)
    (clear : (L : Location) → (written (run a w).touches L ≡ true) ⊎ (exposed (run a w).touches L ≡ true) → IsClear p w L) where
  pub alike : Alike itself Q w v (run a w) (run b v)
  alike = frame itself one_place equal_one equal_one same w v ok (λ x y e l. let s = bs.sizes in omega arith) (λ i j lo hi e. let s = bs.sizes in omega arith)
      (λ L M q e. subst (λ (N : Location). PairedContent itself L N (at w L) (at v N)) (location_is q) (bs.alike L (clear L (inr e))))

  -- what isn't clear stays, in both
  stays : (L : Location) → (IsClear p w L → ⊥) → written (run a w).touches L ≡ false
  stays L n = by (written (run a w).touches L) refl
    where
      by : (x : Bool) → written (run a w).touches L ≡ x → x ≡ false
      by true e = absurd (n (clear L (inl e)))
      by false e = refl

  left_stays : (L : Location) → (IsClear p w L → ⊥) → at (run a w).world L ≡ at w L
  left_stays L n = unwritten a w L (stays L n)

  right_stays : (L : Location) → (IsClear p w L → ⊥) → at (run b v).world L ≡ at v L
  right_stays L n = unwritten b v L (sym (written-paired itself one_place equal_one equal_one alike.touches (self_location L)) ∙ stays L n)

  state_stays : (c : ℕ) → IsHushed p c → at (run a w).world (place.Init c) ≡ at w (place.Init c)
  state_stays c h = left_stays (place.Init c) (λ f. f h)

  clear_before : (L : Location) → IsClear p (run a w).world L → IsClear p w L
  clear_before (place.Static f) c = λ i. c (i.0, state_stays (field_at p f).class i.0 ∙ i.1)
  clear_before (place.Init d) c = c
  clear_before _ c = tt

  pub beside_after : Beside p Equal (run a w).world (run b v).world
  beside_after = record {
    sizes = (let s = bs.sizes in let t = alike.sizes in omega arith);
    alike = λ L c. alike.worlds L L (self_location L) (inr (bs.alike L (clear_before L c)));
    hushed = λ c h. elim (bs.hushed c h) [ inl e ↦ inl (state_stays c h ∙ e) | inr e ↦ inr (state_stays c h ∙ e) ];
    pending = λ f i.
        let j : IsPending p w (field_at p f).class = (i.0, sym (state_stays (field_at p f).class i.0) ∙ i.1) in
        let q = bs.pending f j in
        (left_stays (place.Static f) (λ g. g j) ∙ q.0, right_stays (place.Static f) (λ g. g j) ∙ q.1);
  }

-- ---- each content has this to itself, so the worlds are beside one another at the start and over a going

self_value : (v : Value) → PairedValue itself v v
self_value (value.Int n) = ints n
self_value (value.Long n) = longs n
self_value value.Null = nulls
self_value (value.Lit n) = literals (self_number n)
self_value (value.Obj o) = objects refl

self_content : (L : Location) (c : Content L) → Equal L c c
self_content (place.Static f) c = self_value c
self_content (place.Head o) c = record { kind = self_kind c.kind; length = refl }
self_content (place.Field o f) c = self_value c
self_content (place.Elem o i) c = self_value c
self_content _ c = refl

module _ (p : Program) (sd : Sound p) where
  pub beside_at_start : Beside p Equal (opening p) (opening (quiet p))
  beside_at_start = at_start p Equal self_content (λ c q. (quiet_loud p c q, quiet_trivial p sd c q))

  -- Object is trivial, so a field that there isn't is of no hushed class
  object_trivial : is_trivial p object_class ≡ true
  unfolding is_trivial builtin_classes builtin_defs default_interfaces own_interfaces
  object_trivial =
      let e = builtin_class p sd.linked.builtins object_class (omega arith) in
      ap (λ (x : ClassRec). cond (is_interface x.flags) (not (declares_start p object_class)) (list_all (starts_none p) (upwards p object_class))) e
      ∙ (ap (λ (cs : List ℕ). list_all (starts_none p) cs) (upwards_root p sd.linked object_class sd.linked.listed.top)
      ∙ ap (λ (x : ClassRec). (not (is_some x.initialiser) && list_all (λ i. not (declares_start p i)) (filter (λ i. list_any (λ m. is_default_method (method_at p m)) (class_at p i).methods) (first_mentions (flat_map (λ j. lineage_in p class_bound j) x.interfaces)))) && true) e)

  field_there : (f : ℕ) → IsHushed p (field_at p f).class → f < length p.fields
  field_there f h = elim (cases_lt f (length p.fields)) [
    | inl l ↦ l
    | inr g ↦ absurd (let z : true ≡ false = sym object_trivial ∙ (ap (λ (x : FieldRec). is_trivial p x.class) (sym (get_or_past p.fields f no_field g)) ∙ h.0) in cc)
  ]

  pub beside_after_going : (w v u : World) → Beside p Equal w v → Went p w u → Beside p Equal u v
  beside_after_going w v u b g = after_going p Equal self_content field_there w v u b g
