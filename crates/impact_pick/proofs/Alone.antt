-- A settled test: it reads nothing but `System.out`, which holds the stream, so it does the same after any tests.
use Rattle.std.proofs.Common.{◌≡◌, ℕ, zero, suc, get_or, List, [], ◌∷◌, Bool, true, false, not, ◌||◌, nat_eq, refl, sym, ◌∙◌, ap, subst, inl, inr, arith, Option, Some, None}
use Rattle.std.specs.List.{list_any, list_all}
use Rattle.std.proofs.lemmas.Bool.{and_parts, or_left, or_right, eqb-true, not-true}
use Rattle.std.proofs.Math.ListN.{get_or-map}
use Rattle.et_base.proofs.Cases.{implied}
use Rattle.jvm_model.specs.declared.{values.Value.Value, values.Value.TheVariants.Lit, values.Location.Location, instr.Instr.Instr, program.Program.Program}
use Rattle.jvm_model.specs.declared.values.Location.TheVariants as place
use Rattle.jvm_model.specs.declared.instr.Instr.TheVariants as form
use Rattle.jvm_model.specs.declared.program.{ClassRec.ClassRec, FieldRec.FieldRec, MethodRec.MethodRec, Body.Body, Placed.Placed}
use Rattle.jvm_model.specs.{World.World, World.at, World.same, Library.builtin_classes, Library.builtin_fields, Library.builtin_defs}
use Rattle.jvm_model.specs.{Builtin.out_field, Builtin.system_class, Linked.Linked, State.test_at, Suite.opening, Suite.Given, Suite.one_test}
use Rattle.jvm_model.specs.Classes.{class_at, method_at, no_field, no_method, found_in, found_of, place_after, Found, form_at}
use Rattle.jvm_model.proofs.BuiltinRules.{builtin_class, builtin_field}
use Rattle.check_sound.specs.PaceLaw.{IsPut}
use Rattle.check_sound.proofs.PacedTest.{test_statics}
use Rattle.order_law.specs.{Conflicts.Member, Exposed.exposed, Histories.after_history, Histories.touches_of, OwnRecord.places_in}
use Rattle.order_law.specs.Reach.{puts_out, body_puts_out, puts_out_somewhere, is_settled_in, is_settled}
use Rattle.order_law.specs.Pairing.{PairedList, no_more, one_more, PairedValue, literals, PairedLocation, statics, inits, heads, at_field, at_elem, texts, files, props, PairedContent}
use Rattle.order_law.specs.Numbers.{Numbers, Tested, with_places}
use Rattle.order_law.specs.{Matched.Matched, Matched.PairedTest, Outcomes.PairedOutcome, FrameLaw.PairsObjects}
use Rattle.order_law.proofs.{FrameLaw.frame_law, OwnRecord.first_in, OwnRecord.touched}

abbrev pub out : Location
out = place.Static out_field

-- ---- no code puts it, so it stays

puts_in : (xs : List Placed) (end pc : ℕ) (x : Found) → found_in xs end pc ≡ Some x → puts_out x.form ≡ true → list_any (λ y. puts_out y.form) xs ≡ true
puts_in [] end pc x e h = absurd (cc)
puts_in (y ∷ xs) end pc x e h = here (nat_eq y.pc pc) (λ g. puts_in xs end pc x g h) e
  where
    here : (b : Bool) → (found_in xs end pc ≡ Some x → list_any (λ z. puts_out z.form) xs ≡ true) → ◌≡◌ {A = Option Found} (elim b [ true ↦ Some (record { form = y.form; after = place_after xs end }) | false ↦ found_in xs end pc ]) (Some x) → (puts_out y.form || list_any (λ z. puts_out z.form) xs) ≡ true
    here true again g = let k : y.form ≡ x.form = ap (λ (o : Option Found). elim o [ None ↦ form.Nop | Some z ↦ z.form ]) g in or_left (puts_out y.form) _ (ap puts_out k ∙ h)
    here false again g = or_right (puts_out y.form) _ (again g)

puts_of : (o : Option Body) (pc : ℕ) (x : Found) → found_of o pc ≡ Some x → puts_out x.form ≡ true → body_puts_out o ≡ true
puts_of None pc x e h = absurd (cc)
puts_of (Some b) pc x e h = puts_in b.code b.length pc x e h

found_at : (o : Option Found) (f : Instr) → ◌≡◌ {A = Option Instr} (elim o [ None ↦ None | Some x ↦ Some x.form ]) (Some f) → (x : Found) × (o ≡ Some x) × (x.form ≡ f)
found_at None f e = absurd (cc)
found_at (Some x) f e = (x, refl, (cc))

any_at : (f : MethodRec → Bool) (ms : List MethodRec) (m : ℕ) → f no_method ≡ false → f (get_or ms m no_method) ≡ true → list_any f ms ≡ true
any_at f [] m n e = absurd (cc)
any_at f (x ∷ ms) zero n e = or_left (f x) _ e
any_at f (x ∷ ms) (suc m) n e = or_right (f x) _ (any_at f ms m n e)

not_put : (r : Program) → puts_out_somewhere r ≡ false → IsPut r out_field → ⊥
unfolding form_at
not_put r e (m, pc, h) =
    let x = found_at (found_of (method_at r m).body pc) (form.PutStatic out_field) h in
    let k : puts_out x.0.form ≡ true = ap puts_out x.2 in
    let g = any_at (λ z. body_puts_out z.body) r.methods m refl (puts_of (method_at r m).body pc x.0 x.1 k) in
    absurd (let z : true ≡ false = sym g ∙ e in cc)

module _ (r : Program) (lk : Linked r) where
  out_opens : at (opening r) out ≡ Lit 0
  unfolding opening builtin_fields builtin_defs
  out_opens = get_or-map (λ (f : FieldRec). f.opening) r.fields out_field no_field ∙ ap (λ (f : FieldRec). f.opening) (builtin_field r lk.builtins out_field (omega arith))

  pub out_stays : puts_out_somewhere r ≡ false → (D : List ℕ) → at (after_history r D) out ≡ Lit 0
  out_stays e [] = out_opens
  out_stays e (t ∷ D) = (test_statics r lk t (test_at r t).budget (after_history r D)).1 out_field (not_put r e) ∙ out_stays e D

-- ---- what it reads

all_member : (f : Location → Bool) (ls : List Location) (L : Location) → list_all f ls ≡ true → Member L ls → f L ≡ true
all_member f [] L e i = absurd i
all_member f (M ∷ ls) L e i = let p = and_parts (f M) (list_all f ls) e in elim i [ inl g ↦ ap f g ∙ p.0 | inr j ↦ all_member f ls L p.1 j ]

pub settled_reads : (p : Program) (t : ℕ) → is_settled p t ≡ true → (L : Location) → exposed (touches_of p t) L ≡ true → same L out ≡ true
unfolding is_settled_in
settled_reads p t e L h =
    let a = and_parts (list_all (λ M. not (exposed (touches_of p t) M) || same M out) (places_in (touches_of p) t)) _ e in
    implied (exposed (touches_of p t) L) (same L out) (all_member (λ M. not (exposed (touches_of p t) M) || same M out) (places_in (touches_of p) t) L a.0 (first_in _ L (touched (touches_of p t) L (inr h)))) h

pub settled_puts : (p : Program) (t : ℕ) → is_settled p t ≡ true → puts_out_somewhere p ≡ false
unfolding is_settled_in
settled_puts p t e = not-true _ (and_parts (list_all (λ M. not (exposed (touches_of p t) M) || same M out) (places_in (touches_of p) t)) _ e).1

-- ---- it gives the same

pub record GivesAlone (n : Numbers) (q : Program) (v : World) (t b : ℕ) (x : Given) : Type 0 where
  pub given : Given
  pub is : one_test q v t b ≡ Some given
  pub outcome : PairedOutcome n x.outcome given.outcome

head_paired : {R : ℕ → ℕ → Type 0} {xs ys : List ℕ} (a b : ℕ) (us vs : List ℕ) → PairedList R xs ys → xs ≡ a ∷ us → ys ≡ b ∷ vs → R a b
head_paired a b us vs no_more e g = absurd (cc)
head_paired {R} a b us vs (one_more {x} {y} r rs) e g = let k : x ≡ a = cc in let l : y ≡ b = cc in subst (λ (z : ℕ). R z b) k (subst (λ (z : ℕ). R x z) l r)

system_fields : (r : Program) → Linked r → (class_at r system_class).fields ≡ out_field ∷ []
unfolding builtin_classes builtin_defs
system_fields r lk = ap (λ (c : ClassRec). c.fields) (builtin_class r lk.builtins system_class (omega arith))

nowhere : ℕ → ℕ → Bool
nowhere a b = false

module _ (p q : Program) (n : Numbers) (mt : Matched n p q) (lp : Linked p) (lq : Linked q) (t b : ℕ) (w v : World) (pt : PairedTest n (test_at p t) (test_at q t)) (x : Given) (is : one_test p w t b ≡ Some x)
    (reads : (L : Location) → exposed x.touches L ≡ true → same L out ≡ true) (left : at w out ≡ Lit 0) (right : at v out ≡ Lit 0) where
  out_itself : n.fields out_field out_field ≡ true
  out_itself = head_paired {R = Tested n.fields} out_field out_field [] [] (mt.code.classes system_class system_class (mt.code.builtin system_class (omega arith))).fields (system_fields p lp) (system_fields q lq)

  abbrev m : ℕ → ℕ → Type 0
  m = Tested nowhere

  agree : (L M : Location) → PairedLocation (with_places n (Tested nowhere)) L M → exposed x.touches L ≡ true → PairedContent (with_places n (Tested nowhere)) L M (at w L) (at v M)
  unfolding nowhere
  agree L M (statics {f} {g} e) h =
      let k : f ≡ out_field = eqb-true f out_field (reads L h) in
      let l : out_field ≡ g = mt.code.one_field.from_left out_field out_field g out_itself (subst (λ (z : ℕ). n.fields z g ≡ true) k e) in
      let a : at w L ≡ Lit 0 = subst (λ (z : ℕ). at w (place.Static z) ≡ Lit 0) (sym k) left in
      let c : at v M ≡ Lit 0 = subst (λ (z : ℕ). at v (place.Static z) ≡ Lit 0) l right in
      subst (λ (z : Value). PairedValue (with_places n (Tested nowhere)) z (at v M)) (sym a) (subst (λ (z : Value). PairedValue (with_places n (Tested nowhere)) (Lit 0) z) (sym c) (literals mt.code.stream))
  agree L M (inits e) h = absurd (let z = reads L h in cc)
  agree L M (files e) h = absurd (let z = reads L h in cc)
  agree L M (props e) h = absurd (let z = reads L h in cc)
  agree L M (heads y) h = absurd (cc)
  agree L M (texts y) h = absurd (cc)
  agree L M (at_field y e) h = absurd (cc)
  agree L M (at_elem i y) h = absurd (cc)

  pairs_none : PairsObjects nowhere w v
  unfolding nowhere
  pairs_none = record {
    one = record { from_left = λ a c d e f. absurd (cc); from_right = λ a c d e f. absurd (cc) };
    left = λ a c e. absurd (cc);
    right = λ a c e. absurd (cc);
  }

  pub gives_alone : GivesAlone n q v t b x
  gives_alone = let s = frame_law p q n t t b w v nowhere mt pt pairs_none x is agree in record { given = s.given; is = s.is; outcome = s.outcome }
