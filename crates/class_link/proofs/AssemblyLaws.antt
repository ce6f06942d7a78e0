-- The records of a program put together, with the numbers of the built-in ones, and bodies put in one after another.
use Rattle.std.proofs.Common.{◌≡◌, ◌++◌, ℕ, List, [], length, sym, ap, ◌∙◌, ◌+◌, ◌∷◌, map, Option, option_map, refl, arith, append_assoc, length-append}
use Rattle.class_reader.specs.declared.parts.{ClassParts.ClassParts, CodePart.CodePart, MemberPart.MemberPart}
use Rattle.jvm_model.specs.declared.program.{Program.Program, ClassRec.ClassRec, Body.Body, MethodRec.MethodRec, TestEntry.TestEntry}
use Rattle.jvm_model.specs.Library.{builtin_classes, builtin_fields, builtin_methods}
use Rattle.class_link.specs.{ClassNames.all_names, Literals.literals, Filling.filled, Filling.with_body}
use Rattle.jvm_model.proofs.BuiltinRules.{lengths}
use Rattle.class_link.specs.Assembly.{assembled, skeleton, class_recs, field_recs, method_recs, bare_body, method_rec, bodies_of}
use Rattle.std.proofs.lemmas.List.{length-map, append-nil}
use Rattle.class_pool.specs.declared.pool.Entry.{Entry}

numbered : (names : List (List ℕ)) (cs : List ClassParts) → class_recs names 2 102 cs ≡ class_recs names (length builtin_fields) (length builtin_methods) cs
numbered names cs = ap (λ (f : ℕ). class_recs names f 102 cs) (sym lengths.1) ∙ ap (λ (m : ℕ). class_recs names (length builtin_fields) m cs) (sym lengths.2)

abbrev pub put_together : List ClassParts → List ClassRec → Program
put_together cs classes = record {
  classes = builtin_classes ++ classes;
  fields = builtin_fields ++ field_recs (literals cs) 32 cs;
  methods = builtin_methods ++ method_recs (λ _ code. bare_body code) 32 cs;
  literals = literals cs;
  tests = [];
  files = [];
}

pub skeleton_is : (cs : List ClassParts) → put_together cs (class_recs (all_names cs) 2 102 cs) ≡ skeleton cs
unfolding assembled
skeleton_is cs = ap (put_together cs) (numbered (all_names cs) cs)

-- ---- bodies that are put in

-- one more body
pub filled_more : (m : ℕ) (bs : List (Option Body)) (b : Option Body) (n : ℕ) (methods : List MethodRec) → n ≡ m + length bs → filled m (bs ++ b ∷ []) methods ≡ with_body (filled m bs methods) n b
filled_more m [] b n methods e = ap (λ (k : ℕ). with_body methods k b) (omega arith)
filled_more m (x ∷ bs) b n methods e = filled_more (m + 1) bs b n (with_body methods m x) (omega arith)

-- the method behind those of front
seam : (front : List MethodRec) (x : MethodRec) (back : List MethodRec) (n : ℕ) (b : Option Body) → n ≡ length front → with_body (front ++ x ∷ back) n b ≡ front ++ record x { body = b } ∷ back
seam [] x back n b e = rw e refl
seam (y ∷ front) x back n b e = rw e (ap (λ (xs : List MethodRec). y ∷ xs) (seam front x back (length front) b refl))

-- the methods of one class, behind those of front
filled_class : (bare whole : CodePart → Body) (slots : List (Option Entry)) (c : ℕ) (front : List MethodRec) (ms : List MemberPart) (bs : List (Option Body)) (back : List MethodRec) (n k : ℕ) → n ≡ length front → k ≡ n + length ms
    → filled n (map (λ m. option_map whole m.code) ms ++ bs) (front ++ (map (method_rec bare slots c) ms ++ back)) ≡ filled k bs ((front ++ map (method_rec whole slots c) ms) ++ back)
filled_class bare whole slots c front [] bs back n k e f = let same : k ≡ n = omega arith in rw (same, append-nil front) refl
filled_class bare whole slots c front (m ∷ ms) bs back n k e f =
    let y = method_rec whole slots c m in
    let rest = map (method_rec bare slots c) ms ++ back in
    ap (filled (n + 1) (map (λ x. option_map whole x.code) ms ++ bs)) (seam front (method_rec bare slots c m) rest n (option_map whole m.code) e ∙ sym (append_assoc front (y ∷ []) rest))
    ∙ filled_class bare whole slots c (front ++ y ∷ []) ms bs back (n + 1) k (omega (arith, length-append front (y ∷ []))) (omega arith)
    ∙ ap (λ (xs : List MethodRec). filled k bs (xs ++ back)) (append_assoc front (y ∷ []) (map (method_rec whole slots c) ms))

-- the methods of several classes
filled_classes : (bare whole : ClassParts → CodePart → Body) (c : ℕ) (cs : List ClassParts) (front : List MethodRec) (n : ℕ) → n ≡ length front
    → filled n (bodies_of whole cs) (front ++ method_recs bare c cs) ≡ front ++ method_recs whole c cs
filled_classes bare whole c [] front n e = refl
filled_classes bare whole c (x ∷ cs) front n e =
    let own = map (method_rec (whole x) x.pool c) x.methods in
    filled_class (bare x) (whole x) x.pool c front x.methods (bodies_of whole cs) (method_recs bare (c + 1) cs) n (n + length x.methods) e refl
    ∙ filled_classes bare whole (c + 1) cs (front ++ own) (n + length x.methods) (simp (length-append, length-map) (omega arith))
    ∙ append_assoc front own (method_recs whole (c + 1) cs)

-- a program with the bodies of its methods in place of the bare ones
pub filled_program : (p : Program) (body : ClassParts → CodePart → Body) (cs : List ClassParts) (tests : List TestEntry) (files : List (List ℕ × List ℕ)) → p ≡ skeleton cs
    → record p { methods = filled 102 (bodies_of body cs) p.methods; tests = tests; files = files } ≡ assembled body cs tests files
unfolding assembled
filled_program p body cs tests files is = rw is (ap (λ (ms : List MethodRec). record (skeleton cs) { methods = ms; tests = tests; files = files }) (filled_classes (λ c code. bare_body code) body 32 cs builtin_methods 102 (sym lengths.2)))
