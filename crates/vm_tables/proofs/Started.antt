-- Default interfaces, trivial classes, parts and methods' facts of all numbers.
use Rattle.std.proofs.Common.{◌≡◌, ℕ, ◌+◌, ◌<◌, ◌≤◌, List, [], ◌∷◌, ◌++◌, append_assoc, length, get_or, take, filter, map, Bool, true, false, refl, sym, ◌∙◌, ap, subst, inl, inr, arith}
use Rattle.std.proofs.lemmas.{Bool.cases_lt, List.get_or_past, List.map-append, List.take_more, List.Elements.filter-append}
use Rattle.jvm_model.specs.{declared.program.Program.Program, Initialise.Part as Before, Initialise.parts_of, Initialise.superclass_part}
use Rattle.jvm_model.specs.Classes.{class_at, no_class, class_bound, own_interfaces, default_interfaces, is_interface, is_trivial}
use Rattle.jvm_model.specs.{Classes.method_at, Classes.no_method, Descriptors.parameters, Descriptors.return_type}
use Rattle.vm_tables.specs.declared.{methods.MethodFacts.MethodFacts, init_plan.Part.Part}
use Rattle.vm_tables.specs.{Methods.AreFacts, Methods.facts_of, Methods.no_facts, Interfaces.AreDefaults}
use Rattle.vm_tables.specs.Starts.{AreTrivial, AreParts, part_of, interface_part, is_started}

-- ---- a number past the classes

module _ (p : Program) (c : ℕ) (h : length p.classes ≤ c) where
  past : class_at p c ≡ no_class
  past = get_or_past p.classes c no_class h

  default_past : default_interfaces p c ≡ []
  unfolding default_interfaces own_interfaces
  default_past = rw past (refl {a = []})

  trivial_past : is_trivial p c ≡ true
  unfolding is_trivial class_bound
  trivial_past = rw (past, default_past) (refl {a = true})

  parts_past : parts_of p c ≡ []
  unfolding parts_of
  parts_past = rw (past, default_past) (refl {a = []})

-- ---- whole tables

pub table_all : {A B : Type 0} (view : A → B) (f : ℕ → B) (d : A) (xs : List A) (m n : ℕ) → length xs ≡ n → m ≤ n → ((c : ℕ) → c < n → view (get_or xs c d) ≡ f c) → ((c : ℕ) → m ≤ c → f c ≡ view d) → (c : ℕ) → view (get_or xs c d) ≡ f c
table_all view f d xs m n l k g h c = elim (cases_lt c n) [
  | inl i ↦ g c i
  | inr i ↦ ap view (get_or_past xs c d (omega arith)) ∙ sym (h c (omega arith))
]

module _ (p q : Program) (n : ℕ) (e : q ≡ p) (k : length p.classes ≤ n) where
  pub default_all : (xs : List (List ℕ)) → length xs ≡ n → ((c : ℕ) → c < n → get_or xs c [] ≡ default_interfaces p c) → AreDefaults q xs
  default_all xs l g = let all : AreDefaults p xs = table_all (λ x. x) (default_interfaces p) [] xs (length p.classes) n l k g (λ c h. default_past p c h) in subst (λ w. AreDefaults w xs) (sym e) all

  pub trivial_all : (xs : List Bool) → length xs ≡ n → ((c : ℕ) → c < n → get_or xs c true ≡ is_trivial p c) → AreTrivial q xs
  trivial_all xs l g = let all : AreTrivial p xs = table_all (λ x. x) (is_trivial p) true xs (length p.classes) n l k g (λ c h. trivial_past p c h) in subst (λ w. AreTrivial w xs) (sym e) all

  pub parts_all : (xs : List (List Part)) → length xs ≡ n → ((c : ℕ) → c < n → map part_of (get_or xs c []) ≡ parts_of p c) → AreParts q xs
  parts_all xs l g = let all : AreParts p xs = table_all (map part_of) (parts_of p) [] xs (length p.classes) n l k g (λ c h. parts_past p c h) in subst (λ w. AreParts w xs) (sym e) all

-- ---- methods

facts_past : (p : Program) (m : ℕ) → length p.methods ≤ m → facts_of p m ≡ no_facts
unfolding parameters return_type
facts_past p m h = let past : method_at p m ≡ no_method = get_or_past p.methods m no_method h in rw past (refl {a = no_facts})

pub facts_all : (p q : Program) (n : ℕ) → q ≡ p → length p.methods ≤ n → (xs : List MethodFacts) → length xs ≡ n → ((m : ℕ) → m < n → get_or xs m no_facts ≡ facts_of p m) → AreFacts q xs
facts_all p q n e k xs l g = let all : AreFacts p xs = table_all (λ x. x) (facts_of p) no_facts xs (length p.methods) n l k g (λ m h. facts_past p m h) in subst (λ w. AreFacts w xs) (sym e) all

-- ---- parts

-- one default interface more
pub part_more : (p : Program) (xs : List ℕ) (i : ℕ) (start old new : List Before) → i < length xs → old ≡ start ++ filter (λ x. is_started p x) (map interface_part (take i xs))
    → new ≡ old ++ filter (λ x. is_started p x) (interface_part (get_or xs i 0) ∷ []) → new ≡ start ++ filter (λ x. is_started p x) (map interface_part (take (i + 1) xs))
part_more p xs i start old new h e g =
    let test : Before → Bool = λ x. is_started p x in
    let here : List Before = filter test (interface_part (get_or xs i 0) ∷ []) in
    let before : List Before = filter test (map interface_part (take i xs)) in
    let more : filter test (map interface_part (take (i + 1) xs)) ≡ before ++ here =
    ap (λ (ys : List ℕ). filter test (map interface_part ys)) (take_more xs i 0 h)
    ∙ (ap (λ (ys : List Before). filter test ys) (map-append interface_part (take i xs) (get_or xs i 0 ∷ [])) ∙ filter-append test (map interface_part (take i xs)) (interface_part (get_or xs i 0) ∷ [])) in
    g ∙ (ap (λ (ys : List Before). ys ++ here) e ∙ (append_assoc start before here ∙ ap (λ (ys : List Before). start ++ ys) (sym more)))

-- the parts of a class that is no interface
pub all_parts : (p : Program) (c : ℕ) (none one all : List Before) → is_interface (class_at p c).flags ≡ false → none ≡ [] → one ≡ none ++ filter (λ x. is_started p x) (superclass_part (class_at p c).superclass)
    → all ≡ one ++ filter (λ x. is_started p x) (map interface_part (default_interfaces p c)) → all ≡ parts_of p c
unfolding parts_of
all_parts p c none one all b n e g =
    let test : Before → Bool = λ x. is_started p x in
    let first : List Before = superclass_part (class_at p c).superclass in
    let rest : List Before = map interface_part (default_interfaces p c) in
    let joined : all ≡ filter test first ++ filter test rest = g ∙ ap (λ (ys : List Before). ys ++ filter test rest) (e ∙ ap (λ (ys : List Before). ys ++ filter test first) n) in
    rw b (joined ∙ sym (filter-append test first rest))
