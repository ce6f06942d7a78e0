-- The references of the generated class: what they stand for, and that each is used as it may be.
use Rattle.std.proofs.Common.{◌≡◌, ◌⊎◌, inl, inr, ℕ, zero, suc, ◌+◌, ◌*◌, ◌%◌, ◌<◌, ◌≤◌, Bool, true, false, cond, nat_eq, unwrap_or, List, [], ◌∷◌, ◌++◌, length, map, flat_map, decimal, Option, Some, None, is_none, refl, sym, ap, subst, ◌∙◌, arith}
use Rattle.std.specs.Prelude.{codes, option_map}
use Rattle.std.specs.List.{AllByRecursion, list_all, range_with_len}
use Rattle.std.proofs.{Math.Nat.mod-eq_of_lt, lemmas.Bool.and_from, lemmas.Bool.eqb-true}
use Rattle.et_base.proofs.Cases.{by_test}
use Rattle.class_pool.specs.{declared.pool.Entry.Entry, declared.pool.Entry.TheVariants.Method, Pool.entry_of, Pool.text_of, Pool.class_name_of}
use Rattle.class_reader.specs.declared.parts.{ClassParts.ClassParts, MemberPart.MemberPart}
use Rattle.jvm_model.specs.declared.values.Kind.TheVariants as kind
use Rattle.jvm_model.specs.{declared.program.FieldRec.FieldRec, Library.builtin_defs, Library.builtin_classes, Library.builtin_methods, Classes.is_static}
use Rattle.jvm_model.specs.Lookup.{find_field, find_method}
use Rattle.code_forms.specs.{declared.references.Use.Use, declared.references.Target.Target, Uses.use_of, Uses.fits}
use Rattle.code_forms.specs.declared.references.Use.TheVariants as used
use Rattle.code_forms.specs.declared.references.Target.TheVariants as target
use Rattle.class_link.specs.ClassNames.{text_at, name_at, needed_class, missing, kind_of}
use Rattle.class_link.specs.declared.link_environment.LinkEnvironment.{LinkEnvironment}
use Rattle.class_link.specs.References.{pair_of, field_target, method_target, target_of, missing_for, code_uses, uses}
use Rattle.class_link.specs.Faults.{first_some, uses_at, missing_or, wrong_unless, target_fault, entry_fault, references_fault, all_references_fault}
use Rattle.suite_gen.specs.Generated.{group_of, group_count, field_entry, print_entry, setting, printing, adding, code_of, method_of, slots, generated_class}
use Rattle.generated_law.specs.GeneratedSuite.{field_number, print_number, gen_program}
use Rattle.generated_law.proofs.{Pool.Slots, Pool.Holds, Pool.holds, Pool.all_append, Members.field_is, Members.field_found, Members.print_found}
use Rattle.generated_law.proofs.Assembling.{gen_names, own_number, env_number, gen_skeleton, gen_setting}

-- ---- what entries stand for

named_own : (k : ℕ) (s : Slots) → Holds k s → name_at s 2 ≡ codes "Gen"
named_own k s h = ap (λ o. unwrap_or (class_name_of s o) []) h.own_class ∙ ap (λ o. unwrap_or (text_of o) []) h.own

named_env : (k : ℕ) (s : Slots) → Holds k s → name_at s 9 ≡ codes "electric/Env"
named_env k s h = ap (λ o. unwrap_or (class_name_of s o) []) h.env_class ∙ ap (λ o. unwrap_or (text_of o) []) h.env

own_kind : kind_of gen_names (codes "Gen") ≡ Some (kind.Class 32)
unfolding kind_of
own_kind = ap (option_map (λ c. kind.Class c)) own_number

env_kind : kind_of gen_names (codes "electric/Env") ≡ Some (kind.Class 6)
unfolding kind_of
env_kind = ap (option_map (λ c. kind.Class c)) env_number

field_pair : (k : ℕ) (s : Slots) → Holds k s → (g : ℕ) → g < group_count k → pair_of s (entry_of s (15 + 3 * g)) ≡ (codes "f" ++ decimal g, codes "I")
field_pair k s h g few =
    let name : text_at s (14 + 3 * g) ≡ codes "f" ++ decimal g = ap (λ o. unwrap_or (text_of o) []) (h.name g few) in
    let type : text_at s 6 ≡ codes "I" = ap (λ o. unwrap_or (text_of o) []) h.number in
    ap (pair_of s) (h.pair g few) ∙ (λ j. (name j, type j))

print_pair : (k : ℕ) (s : Slots) → Holds k s → pair_of s (entry_of s 12) ≡ (codes "print", codes "(I)V")
print_pair k s h =
    let name : text_at s 10 ≡ codes "print" = ap (λ o. unwrap_or (text_of o) []) h.print in
    let type : text_at s 11 ≡ codes "(I)V" = ap (λ o. unwrap_or (text_of o) []) h.printing in
    ap (pair_of s) h.print_pair ∙ (λ j. (name j, type j))

pub field_target_is : (k : ℕ) (s : Slots) → Holds k s → (g : ℕ) → g < group_count k → k ≤ 1024 → target_of (gen_setting k) s (entry_of s (field_entry g)) ≡ Some (target.Field 32 (field_number g))
unfolding target_of
field_target_is k s h g few small =
    let e = gen_setting k in
    let pair = pair_of s (entry_of s (15 + 3 * g)) in
    ap (target_of e s) (h.field g few)
    ∙ (ap (λ name. field_target e (kind_of gen_names name) pair) (named_own k s h)
    ∙ (ap (λ o. field_target e o pair) own_kind
    ∙ (ap (λ x. option_map (λ f. target.Field 32 f) (find_field (gen_skeleton k) 32 x.0 x.1)) (field_pair k s h g few) ∙ ap (option_map (λ f. target.Field 32 f)) (field_found _ k [] g few small))))

pub print_target_is : (k : ℕ) (s : Slots) → Holds k s → target_of (gen_setting k) s (entry_of s print_entry) ≡ Some (target.Method (kind.Class 6) print_number)
unfolding target_of
print_target_is k s h =
    let e = gen_setting k in
    let pair = pair_of s (entry_of s 12) in
    ap (target_of e s) h.print_method
    ∙ (ap (λ name. method_target e (kind_of gen_names name) pair) (named_env k s h)
    ∙ (ap (λ o. method_target e o pair) env_kind
    ∙ (ap (λ x. option_map (λ m. target.Method (kind.Class 6) m) (find_method (gen_skeleton k) 6 x.0 x.1)) (print_pair k s h) ∙ ap (option_map (λ m. target.Method (kind.Class 6) m)) (print_found _ k []))))

-- ---- uses

-- an entry whose class is there, and which stands for this
record Stands (e : LinkEnvironment) (s : Slots) (i : ℕ) : Type 0 where
  pub there : missing_for e.names s (entry_of s i) ≡ None
  pub is : Target
  pub found : target_of e s (entry_of s i) ≡ Some is

-- an entry that is used as it may be
record IsUsed (e : LinkEnvironment) (n : ℕ) (s : Slots) (x : ℕ × Use) : Type 0 where
  pub stands : Stands e s x.0
  pub right : fits e.program n (entry_of s x.0) stands.is x.1 ≡ true

-- each use of the entry i is one that it may have
all_right : (e : LinkEnvironment) (n : ℕ) (s : Slots) (i : ℕ) (t : Target) → target_of e s (entry_of s i) ≡ Some t → (xs : List (ℕ × Use)) → AllByRecursion (IsUsed e n s) xs → list_all (fits e.program n (entry_of s i) t) (uses_at i xs) ≡ true
all_right e n s i t found [] h = refl
all_right e n s i t found (x ∷ xs) h =
    let others = all_right e n s i t found xs h.1 in
    by_test (nat_eq x.0 i)
    (λ yes.
    let same : x.0 ≡ i = eqb-true x.0 i yes in
    let one : Some h.0.stands.is ≡ Some t = sym h.0.stands.found ∙ (ap (λ j. target_of e s (entry_of s j)) same ∙ found) in
    let is : h.0.stands.is ≡ t = cc in
    let right : fits e.program n (entry_of s i) t x.1 ≡ true = subst (λ u. fits e.program n (entry_of s i) u x.1 ≡ true) is (subst (λ j. fits e.program n (entry_of s j) h.0.stands.is x.1 ≡ true) same h.0.right) in
    ap (λ b. list_all (fits e.program n (entry_of s i) t) (cond b (x.1 ∷ uses_at i xs) (uses_at i xs))) yes ∙ and_from _ _ right others)
    (λ no. ap (λ b. list_all (fits e.program n (entry_of s i) t) (cond b (x.1 ∷ uses_at i xs) (uses_at i xs))) no ∙ others)

-- an entry that is used stands for something
used_stands : (e : LinkEnvironment) (n : ℕ) (s : Slots) (i : ℕ) (xs : List (ℕ × Use)) → AllByRecursion (IsUsed e n s) xs → (uses_at i xs ≡ []) ⊎ Stands e s i
used_stands e n s i [] h = inl refl
used_stands e n s i (x ∷ xs) h =
    by_test (nat_eq x.0 i)
    (λ yes. inr (subst (Stands e s) (eqb-true x.0 i yes) h.0.stands))
    (λ no. elim (used_stands e n s i xs h.1) [ inl none ↦ inl (ap (λ b. cond b (x.1 ∷ uses_at i xs) (uses_at i xs)) no ∙ none) | inr r ↦ inr r ])

right_entry : (e : LinkEnvironment) (n : ℕ) (c : ClassParts) (i : ℕ) (us : List Use) → (r : Stands e c.pool i) → list_all (fits e.program n (entry_of c.pool i) r.is) us ≡ true → entry_fault e n c i us ≡ None
unfolding entry_fault
right_entry e n c i [] r h = refl
right_entry e n c i (u ∷ us) r h =
    ap (λ o. missing_or c o (target_fault e n c i (u ∷ us) (target_of e c.pool (entry_of c.pool i)))) r.there
    ∙ (ap (target_fault e n c i (u ∷ us)) r.found ∙ ap (λ b. wrong_unless b c i) h)

unused_entry : (e : LinkEnvironment) (n : ℕ) (c : ClassParts) (i : ℕ) → entry_fault e n c i [] ≡ None
unfolding entry_fault
unused_entry e n c i = refl

no_entry_fault : (e : LinkEnvironment) (n : ℕ) (c : ClassParts) (i : ℕ) (xs : List (ℕ × Use)) → AllByRecursion (IsUsed e n c.pool) xs → entry_fault e n c i (uses_at i xs) ≡ None
no_entry_fault e n c i xs h = elim (used_stands e n c.pool i xs h) [
  | inl none ↦ ap (entry_fault e n c i) none ∙ unused_entry e n c i
  | inr r ↦ right_entry e n c i (uses_at i xs) r (all_right e n c.pool i r.is r.found xs h)
]

pub none_first : {B : Type 0} (f : ℕ → Option B) (a n : ℕ) → ((i : ℕ) → a ≤ i → f i ≡ None) → first_some f (range_with_len a n) ≡ None
none_first f a zero h = refl
none_first f a (suc n) h = ap (λ o. elim o [ Some y ↦ Some y | None ↦ first_some f (range_with_len (a + 1) n) ]) (h a (omega arith)) ∙ none_first f (a + 1) n (λ i low. h i (omega (arith, low)))

-- ---- the uses of the generated class

there_own : missing gen_names (codes "Gen") ≡ None
unfolding missing needed_class
there_own = ap (λ o. cond (is_none o) (Some (codes "Gen")) None) own_number

there_env : missing gen_names (codes "electric/Env") ≡ None
unfolding missing needed_class
there_env = ap (λ o. cond (is_none o) (Some (codes "electric/Env")) None) env_number

field_stands : (k : ℕ) (s : Slots) → Holds k s → (g : ℕ) → g < group_count k → k ≤ 1024 → Stands (gen_setting k) s (field_entry g)
unfolding missing_for
field_stands k s h g few small = record {
  there = ap (missing_for gen_names s) (h.field g few) ∙ (ap (missing gen_names) (named_own k s h) ∙ there_own);
  is = target.Field 32 (field_number g);
  found = field_target_is k s h g few small;
}

print_stands : (k : ℕ) (s : Slots) → Holds k s → Stands (gen_setting k) s print_entry
unfolding missing_for
print_stands k s h = record {
  there = ap (missing_for gen_names s) h.print_method ∙ (ap (missing gen_names) (named_env k s h) ∙ there_env);
  is = target.Method (kind.Class 6) print_number;
  found = print_target_is k s h;
}

field_used : (k : ℕ) (s : Slots) → Holds k s → (g : ℕ) → g < group_count k → k ≤ 1024 → IsUsed (gen_setting k) 32 s (field_entry g, used.StaticField)
unfolding fits field_stands
field_used k s h g few small = record { stands = field_stands k s h g few small; right = ap (λ (x : FieldRec). is_static x.flags) (field_is _ k [] g few) }

print_static : (k : ℕ) (o : Option Entry) → o ≡ Some (Method 9 12) → fits (gen_skeleton k) 32 o (target.Method (kind.Class 6) print_number) used.StaticCall ≡ true
unfolding fits gen_program builtin_classes builtin_methods builtin_defs
print_static k o e = ap (λ x. fits (gen_skeleton k) 32 x (target.Method (kind.Class 6) print_number) used.StaticCall) e

print_used : (k : ℕ) (s : Slots) → Holds k s → IsUsed (gen_setting k) 32 s (print_entry, used.StaticCall)
unfolding print_stands
print_used k s h = record { stands = print_stands k s h; right = print_static k (entry_of s 13) h.print_method }

-- the index of a field's instruction
index_is : (e : ℕ) → e < 65536 → e % 65536 ≡ e
index_is e few = mod-eq_of_lt (omega (arith, few))

code_used : (k : ℕ) (s : Slots) → Holds k s → k ≤ 1024 → (i : ℕ) → group_of i < group_count k → (first third : Bool) → AllByRecursion (IsUsed (gen_setting k) 32 s) (code_uses (Some (cond first (setting i) (cond third (adding i) (printing i)))))
unfolding use_of
code_used k s h small i few true third = (subst (λ e. IsUsed (gen_setting k) 32 s (e, used.StaticField)) (sym (index_is (field_entry (group_of i)) (omega (arith, few, small)))) (field_used k s h (group_of i) few small), tt)
code_used k s h small i few false true =
    let one = subst (λ e. IsUsed (gen_setting k) 32 s (e, used.StaticField)) (sym (index_is (field_entry (group_of i)) (omega (arith, few, small)))) (field_used k s h (group_of i) few small) in
    (one, (one, tt))
code_used k s h small i few false false =
    let one = subst (λ e. IsUsed (gen_setting k) 32 s (e, used.StaticField)) (sym (index_is (field_entry (group_of i)) (omega (arith, few, small)))) (field_used k s h (group_of i) few small) in
    (one, (print_used k s h, tt))

methods_used : (k : ℕ) (s : Slots) → Holds k s → k ≤ 1024 → (a n : ℕ) → 1 ≤ a → a + n ≤ k + 1 → AllByRecursion (IsUsed (gen_setting k) 32 s) (flat_map (λ (m : MemberPart). code_uses m.code) (map (method_of k) (range_with_len a n)))
methods_used k s h small a zero low few = tt
methods_used k s h small a (suc n) low few =
    all_append (IsUsed (gen_setting k) 32 s) (code_uses (Some (code_of a))) (flat_map (λ (m : MemberPart). code_uses m.code) (map (method_of k) (range_with_len (a + 1) n)))
    (code_used k s h small a (omega (arith, low, few)) _ _) (methods_used k s h small (a + 1) n (omega arith) (omega (arith, few)))

pub no_reference_fault : (k : ℕ) → k ≤ 1024 → all_references_fault (gen_setting k) 32 (generated_class k ∷ []) ≡ None
unfolding references_fault uses generated_class
no_reference_fault k few =
    let c = generated_class k in
    let all = methods_used k (slots k) (holds k) few 1 k (omega arith) (omega arith) in
    ap (λ o. elim o [ Some f ↦ Some f | None ↦ None ]) (none_first (λ i. entry_fault (gen_setting k) 32 c i (uses_at i (uses c))) 1 (length (slots k)) (λ i _. no_entry_fault (gen_setting k) 32 c i (uses c) all))
