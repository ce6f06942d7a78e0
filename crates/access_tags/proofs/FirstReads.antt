-- What is kept of objects, after one more touch and at the start of a test.
use Rattle.std.proofs.Common.{◌≡◌, ◌<◌, ◌≤◌, ℕ, suc, true, false, cond, List, [], ◌∷◌, ◌++◌, length, get_or, set, refl, sym, ◌∙◌, ap, arith, nat_eq, inl, inr, Option, Some, None, is_some, option_map}
use Rattle.std.specs.Option.{option_or}
use Rattle.std.proofs.lemmas.Bool.{cases_Bool, cases_eq, eqb-true, eq-eqb, ne_eqb}
use Rattle.std.proofs.lemmas.{List.get_or-set_other, List.get_or_past, Grind.get_or-set_at}
use Rattle.jvm_model.specs.declared.values.{Location.Location, Value.Value, Touch.Touch}
use Rattle.jvm_model.specs.World.{Object}
use Rattle.jvm_model.specs.Access.{made, fields_made, elems_made, text_made}
use Rattle.order_law.specs.Walk.{gives, first_giving}
use Rattle.access_tags.specs.declared.conflict.LocationKey.{LocationKey}
use Rattle.access_tags.specs.declared.discovery_tree.ParentEdge.{ParentEdge}
use Rattle.access_tags.specs.Numbering.{located}
use Rattle.access_tags.specs.ParentEdges.{no_parent, met_by, location_of, HasParents}

-- the first read that gave an object, in two lists
first_after : (ts us : List Touch) (o : ℕ) → first_giving (ts ++ us) o ≡ option_or (first_giving ts o) (first_giving us o)
first_after [] us o = refl
first_after (t ∷ ts) us o = elim (cases_Bool (gives t o)) [ inl h ↦ rw h refl | inr h ↦ rw h (first_after ts us o) ]

or_none : (y : Option Touch) → option_or y None ≡ y
or_none None = refl
or_none (Some x) = refl

first_kept : (ts us : List Touch) (o : ℕ) → first_giving us o ≡ None → first_giving (ts ++ us) o ≡ first_giving ts o
first_kept ts us o e = first_after ts us o ∙ (ap (λ (y : Option Touch). option_or (first_giving ts o) y) e ∙ or_none (first_giving ts o))

-- a touch that gives nothing
quiet_one : (x : Touch) (o : ℕ) → gives x o ≡ false → first_giving (x ∷ []) o ≡ None
quiet_one x o h = rw h refl

ungiven : (x : Touch) (o : ℕ) → x.gave ≡ None → gives x o ≡ false
ungiven x o e = elim (cases_Bool x.write) [ inl h ↦ rw h refl | inr h ↦ rw h (rw e refl) ]

unread : (x : Touch) (o : ℕ) → x.write ≡ true → gives x o ≡ false
unread x o h = rw h refl

gift : (x : Touch) (a o : ℕ) → x.write ≡ false → x.gave ≡ Some a → gives x o ≡ nat_eq a o
gift x a o h e = rw h (rw e refl)

-- touches that give nothing change no meeting
pub meet_quiet : (t : ℕ) (ts us : List Touch) (ms : List ParentEdge) → ((o : ℕ) → first_giving us o ≡ None) → HasParents t ts ms → HasParents t (ts ++ us) ms
meet_quiet t ts us ms q m = record {
  first = λ p o. m.first p o ∙ ap (λ (y : Option Touch). option_map location_of y) (sym (first_kept ts us o (q o)));
  stamped = m.stamped;
}

-- the next test met nothing yet
pub meet_next : (t u : ℕ) (ts : List Touch) (ms : List ParentEdge) → t < u → HasParents t ts ms → HasParents u [] ms
meet_next t u ts ms h m = record {
  first = λ p o. let low = m.stamped o in rw (ne_eqb (get_or ms o no_parent).test u (λ e. omega arith)) refl;
  stamped = λ o. let low = m.stamped o in omega arith;
}

some_or : (z : Option LocationKey) (y w : Option Touch) → is_some z ≡ true → option_map (located []) z ≡ option_map location_of y → option_or y w ≡ y
some_or z (Some x) w s e = refl
some_or None None w s e = absurd (cc)
some_or (Some x) None w s e = absurd (cc)

none_or : (z : Option LocationKey) (y w : Option Touch) → is_some z ≡ false → option_map (located []) z ≡ option_map location_of y → option_or y w ≡ w
none_or z None w s e = refl
none_or None (Some x) w s e = absurd (cc)
none_or (Some x) (Some y) w s e = absurd (cc)

-- one more touch
module _ (t : ℕ) (ts : List Touch) (x : Touch) (ms : List ParentEdge) (m : HasParents t ts ms) where
  pub meet_ungiven : x.gave ≡ None → HasParents t (ts ++ x ∷ []) ms
  meet_ungiven e = meet_quiet t ts (x ∷ []) ms (λ o. quiet_one x o (ungiven x o e)) m

  pub meet_write : x.write ≡ true → HasParents t (ts ++ x ∷ []) ms
  meet_write e = meet_quiet t ts (x ∷ []) ms (λ o. quiet_one x o (unread x o e)) m

  module _ (a : ℕ) (r : x.write ≡ false) (g : x.gave ≡ Some a) where
    other_kept : (o : ℕ) → nat_eq a o ≡ false → first_giving (ts ++ x ∷ []) o ≡ first_giving ts o
    other_kept o d = first_kept ts (x ∷ []) o (quiet_one x o (gift x a o r g ∙ d))

    pub meet_again : (0 < t → is_some (met_by ms t a) ≡ true) → HasParents t (ts ++ x ∷ []) ms
    meet_again s = record {
      first = λ p o. m.first p o ∙ ap (λ (y : Option Touch). option_map location_of y) (sym (elim (cases_Bool (nat_eq a o)) [
        | inl e ↦ first_after ts (x ∷ []) o ∙ some_or (met_by ms t o) (first_giving ts o) _ (ap (λ (i : ℕ). is_some (met_by ms t i)) (sym (eqb-true a o e)) ∙ s p) (m.first p o)
        | inr d ↦ other_kept o d
      ]));
      stamped = m.stamped;
    }

    abbrev now : LocationKey → ParentEdge
    now s = record { test = t; from = s }

    pub meet_first : (s : LocationKey) (ns : List ParentEdge) → x.location ≡ located [] s → (0 < t → is_some (met_by ms t a) ≡ false) → ((i : ℕ) → get_or ns i no_parent ≡ get_or ms i no_parent) → a < length ns → HasParents t (ts ++ x ∷ []) (set ns a (now s))
    meet_first s ns l n same there = record {
      first = λ p o. elim (cases_Bool (nat_eq a o)) [
        | inl e ↦
            let q : o ≡ a = sym (eqb-true a o e) in
            let here : met_by (set ns a (now s)) t o ≡ Some s = rw (get_or-set_at ns a o (now s) no_parent q there) (rw (eq-eqb t t refl) refl) in
            let none : is_some (met_by ms t o) ≡ false = ap (λ (i : ℕ). is_some (met_by ms t i)) q ∙ n p in
            let given : first_giving (x ∷ []) o ≡ Some x = rw (gift x a o r g ∙ e) refl in
            rw here (rw (first_after ts (x ∷ []) o ∙ (none_or (met_by ms t o) (first_giving ts o) (first_giving (x ∷ []) o) none (m.first p o) ∙ given)) (ap (λ (z : Location). Some z) (sym l)))
        | inr d ↦
            let apart : o ≡ a → ⊥ = λ q. let e = eq-eqb a o (sym q) in absurd (cc) in
            let old : met_by (set ns a (now s)) t o ≡ met_by ms t o = ap (λ (z : ParentEdge). cond (nat_eq z.test t) (Some z.from) None) (get_or-set_other ns a o (now s) no_parent apart ∙ same o) in
            rw old (m.first p o ∙ ap (λ (y : Option Touch). option_map location_of y) (sym (other_kept o d)))
      ];
      stamped = λ o. elim (cases_eq o a) [
        | inl q ↦ let e = ap (λ (z : ParentEdge). z.test) (get_or-set_at ns a o (now s) no_parent q there) in omega arith
        | inr q ↦ let e = ap (λ (z : ParentEdge). z.test) (get_or-set_other ns a o (now s) no_parent q ∙ same o) in let low = m.stamped o in omega arith
      ];
    }

-- making an object gives nothing
quiet_both : (us vs : List Touch) (o : ℕ) → first_giving us o ≡ None → first_giving vs o ≡ None → first_giving (us ++ vs) o ≡ None
quiet_both us vs o e f = first_kept us vs o f ∙ e

quiet_fields : (a o : ℕ) (xs : List (ℕ × Value)) → first_giving (fields_made a xs) o ≡ None
quiet_fields a o [] = refl
quiet_fields a o (x ∷ xs) = quiet_fields a o xs

quiet_elems : (a i o : ℕ) (xs : List Value) → first_giving (elems_made a i xs) o ≡ None
quiet_elems a i o [] = refl
quiet_elems a i o (x ∷ xs) = quiet_elems a (suc i) o xs

quiet_text : (a o : ℕ) (t : Option (List ℕ)) → first_giving (text_made a t) o ≡ None
quiet_text a o None = refl
quiet_text a o (Some t) = refl

pub meet_made : (t : ℕ) (ts : List Touch) (ms : List ParentEdge) (a : ℕ) (x : Object) → HasParents t ts ms → HasParents t (ts ++ made a x) ms
meet_made t ts ms a x m = meet_quiet t ts (made a x) ms (λ o. quiet_both (fields_made a x.fields) _ o (quiet_fields a o x.fields) (quiet_both (elems_made a 0 x.elems) (text_made a x.text) o (quiet_elems a 0 o x.elems) (quiet_text a o x.text))) m

-- an object that isn't kept was never met
pub met_none : (ms : List ParentEdge) (t o : ℕ) → length ms ≤ o → 0 < t → met_by ms t o ≡ None
met_none ms t o h p = ap (λ (z : ParentEdge). cond (nat_eq z.test t) (Some z.from) None) (get_or_past ms o no_parent h) ∙ rw (ne_eqb 0 t (λ e. omega arith)) refl
