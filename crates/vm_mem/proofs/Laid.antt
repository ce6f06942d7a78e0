-- Layouts of all class numbers, and the object that was just made.
use Rattle.std.proofs.Common.{◌≡◌, ℕ, ◌<◌, ◌≤◌, List, [], ◌∷◌, ◌++◌, length, get_or, None, refl, sym, ap, ◌∙◌, arith, inl, inr}
use Rattle.std.proofs.{lemmas.Bool.cases_lt, lemmas.List.length-replicate, Math.ListN.get_or-eq_default, Math.Seq.get_or-append_seam}
use Rattle.jvm_model.specs.declared.values.{Value.Value, Head.Head, Kind.Kind, Kind.TheVariants.Class, Kind.TheVariants.Array}
use Rattle.jvm_model.specs.declared.program.Program.{Program}
use Rattle.jvm_model.specs.World.{World, Object, size, object_at, make_object, no_object}
use Rattle.jvm_model.specs.Classes.{class_at, no_class, class_bound, layout, fields_of, elems_of, element_default, blank}

-- a number past the classes has no fields
past_classes : (p : Program) (c : ℕ) → length p.classes ≤ c → fields_of p (Class c) ≡ []
unfolding layout class_bound
past_classes p c h = let e : class_at p c ≡ no_class = get_or-eq_default p.classes no_class h in rw e refl

pub laid_all : (p q : Program) (fields : List (List (ℕ × Value))) (n : ℕ) → q ≡ p → length fields ≡ n → length p.classes ≤ n → ((c : ℕ) → c < n → get_or fields c [] ≡ fields_of p (Class c)) → (c : ℕ) → get_or fields c [] ≡ fields_of q (Class c)
laid_all p q fields n e l w h c = elim (cases_lt c n) [
  | inl i ↦ rw e (h c i)
  | inr i ↦ let a : length fields ≤ c = omega arith in let b : length p.classes ≤ c = omega arith in rw e (get_or-eq_default fields [] a ∙ sym (past_classes p c b))
]

few_elems : (k : Kind) (n : ℕ) → length (elems_of k n) ≤ n
few_elems (Class c) n = omega arith
few_elems (Array dims b) n = let e = length-replicate n (element_default dims b) in omega arith

-- the new object stands at the place that was the size
pub made_there : (w v : World) (x y : Object) (o : ℕ) → o ≡ size w → v ≡ make_object w x → y ≡ object_at v o → y ≡ x
made_there w v x y o e f g = g ∙ ap (λ t. object_at t o) f ∙ ap (λ n. get_or (w.objects ++ x ∷ []) n no_object) e ∙ get_or-append_seam w.objects x [] no_object

pub blank_text : (p : Program) (h : Head) (y : Object) → y ≡ blank p h → y.text ≡ None
unfolding blank
blank_text p h y e = ap (λ x. x.text) e

pub blank_few : (p : Program) (h : Head) (y : Object) → y ≡ blank p h → length y.elems ≤ y.head.length
unfolding blank
blank_few p h y e = rw e (few_elems h.kind h.length)
