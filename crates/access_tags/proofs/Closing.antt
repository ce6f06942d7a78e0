-- Classes that are added one after another, and what they mention.
use Rattle.std.proofs.Common.{◌≡◌, ◌+◌, ◌<◌, ◌≤◌, ℕ, zero, suc, Bool, true, false, not, ◌||◌, ◌&&◌, List, [], ◌∷◌, ◌++◌, length, get_or, set, take, refl, sym, ◌∙◌, ap, subst, arith, nat_eq, nat_lt, nat_le, inl, inr}
use Rattle.std.specs.List.{list_any}
use Rattle.std.proofs.lemmas.Bool.{cases_eq, eqb-true, eq-eqb, ne_eqb, lt-ltb, le-leb, ltb-true, leb-true, and_parts, and_from, or_cases, or_right}
use Rattle.std.proofs.lemmas.{List.length-set, List.get_or-set_other, Grind.get_or-set_at}
use Rattle.std.proofs.{lemmas.List.Folds.list_any-append, lemmas.List.Folds.list_any_more, Math.Bool.or-false}
use Rattle.jvm_model.specs.{Builtin.builtin_count, Classes.class_at, Linked.IsGiven}
use Rattle.jvm_model.specs.declared.program.Program.{Program}
use Rattle.jvm_model.specs.declared.values.Kind.{Kind}
use Rattle.order_law.specs.{Conflicts.Member, Histories.Touches, Reach.ReachesIn, Reach.mentioned}
use Rattle.access_tags.specs.Given.{is_given, AreReached}

-- one class more
module _ (ms : List Bool) (cs : List ℕ) (class : ℕ) where
  module _ (new : (is_given (length ms) class && not (get_or ms class false)) ≡ true) where
    given : is_given (length ms) class ≡ true
    given = (and_parts (is_given (length ms) class) (not (get_or ms class false)) new).0

    pub there : class < length ms
    there = ltb-true class (length ms) (and_parts (nat_le builtin_count class) (nat_lt class (length ms)) given).1

    pub add_has : (c : ℕ) → get_or (set ms class true) c false ≡ (get_or ms c false || (nat_eq c class && is_given (length ms) c))
    add_has c = elim (cases_eq c class) [
      | inl q ↦ rw (eq-eqb c class q) (rw (get_or-set_at ms class c true false q there) (sym (or_right (get_or ms c false) (is_given (length ms) c) (ap (λ (i : ℕ). is_given (length ms) i) q ∙ given))))
      | inr q ↦ rw (ne_eqb c class q) (get_or-set_other ms class c true false q ∙ sym (or-false (get_or ms c false)))
    ]

    pub add_reached : AreReached ms cs → AreReached (set ms class true) (cs ++ class ∷ [])
    add_reached r = let n = length-set ms class true in let few = r.few in record {
      few = omega arith;
      given = λ c g. elim (cases_eq c class) [
        | inl q ↦ subst (λ (i : ℕ). builtin_count ≤ i) (sym q) (leb-true builtin_count class (and_parts (nat_le builtin_count class) (nat_lt class (length ms)) given).0)
        | inr q ↦ r.given c (sym (get_or-set_other ms class c true false q) ∙ g)
      ];
      listed = λ c. list_any-append (nat_eq c) cs (class ∷ []) ∙ elim (cases_eq c class) [
        | inl q ↦ rw (eq-eqb c class q) (rw (get_or-set_at ms class c true false q there) (or_right (list_any (nat_eq c) cs) true refl))
        | inr q ↦ rw (ne_eqb c class q) (or-false (list_any (nat_eq c) cs) ∙ (r.listed c ∙ sym (get_or-set_other ms class c true false q)))
      ];
    }

-- several classes, one after another
pub add_more : (xs : List ℕ) (i n m c df : ℕ) (a b e : Bool) → i < length xs → m ≡ n → b ≡ (a || (list_any (nat_eq c) (take i xs) && is_given n c)) → e ≡ (b || (nat_eq c (get_or xs i df) && is_given m c)) →
    e ≡ (a || (list_any (nat_eq c) (take (i + 1) xs) && is_given n c))
add_more xs i n m c df a b e h k p q = q ∙ (rw k (rw p (rw (list_any_more (nat_eq c) xs i df h) (base a (list_any (nat_eq c) (take i xs)) (nat_eq c (get_or xs i df)) (is_given n c)))))
  where
    base : (a x y g : Bool) → ((a || (x && g)) || (y && g)) ≡ (a || ((x || y) && g))
    base true x y g = refl
    base false true y true = refl
    base false true true false = refl
    base false true false false = refl
    base false false y g = refl

member_any : (d : ℕ) (xs : List ℕ) → Member d xs → list_any (nat_eq d) xs ≡ true
member_any d [] m = absurd m
member_any d (x ∷ xs) (inl q) = rw (eq-eqb d x q) refl
member_any d (x ∷ xs) (inr m) = or_right (nat_eq d x) (list_any (nat_eq d) xs) (member_any d xs m)

any_member : (d : ℕ) (xs : List ℕ) → list_any (nat_eq d) xs ≡ true → Member d xs
any_member d [] e = absurd (cc)
any_member d (x ∷ xs) e = elim (or_cases (nat_eq d x) (list_any (nat_eq d) xs) e) [ inl h ↦ inl (eqb-true d x h) | inr h ↦ inr (any_member d xs h) ]

pub is_given_at : (p : Program) (c : ℕ) → IsGiven p c → is_given (length p.classes) c ≡ true
is_given_at p c g = and_from (nat_le builtin_count c) (nat_lt c (length p.classes)) (le-leb builtin_count c g.0) (lt-ltb c (length p.classes) g.1)

pub given_at : (p : Program) (c : ℕ) → is_given (length p.classes) c ≡ true → IsGiven p c
given_at p c e = let r = and_parts (nat_le builtin_count c) (nat_lt c (length p.classes)) e in (leb-true builtin_count c r.0, ltb-true c (length p.classes) r.1)

-- what the first classes mention is there
abbrev pub IsClosed : Program → List ℕ → (ℕ → Bool) → Type 0
IsClosed p cs has = (c d : ℕ) → list_any (nat_eq c) cs ≡ true → Member d (class_at p c).mentions → IsGiven p d → has d ≡ true

-- each class that is there is reached, if those at the start are
abbrev pub AreWithin : Program → (ℕ → Bool) → (ℕ → Bool) → Type 0
AreWithin p old new = (T : Touches) (kinds : ℕ → ℕ → Kind) (t : ℕ) → ((c : ℕ) → old c ≡ true → ReachesIn p T kinds t c) → (c : ℕ) → new c ≡ true → ReachesIn p T kinds t c

module _ (p : Program) (cs ds : List ℕ) (next class : ℕ) (old new : ℕ → Bool) (there : next < length cs) (at : class ≡ get_or cs next class)
    (first : take (next + 1) ds ≡ take (next + 1) cs) (has : (c : ℕ) → new c ≡ (old c || (list_any (nat_eq c) (class_at p class).mentions && is_given (length p.classes) c))) where
  pub kept_more : (c : ℕ) → old c ≡ true → new c ≡ true
  kept_more c e = has c ∙ rw e refl

  pub closed_more : IsClosed p (take next cs) old → IsClosed p (take (next + 1) ds) new
  closed_more k c d e m g = elim (or_cases (list_any (nat_eq c) (take next cs)) (nat_eq c class) (sym (ap (λ (xs : List ℕ). list_any (nat_eq c) xs) first ∙ (list_any_more (nat_eq c) cs next class there ∙ ap (λ (i : ℕ). list_any (nat_eq c) (take next cs) || nat_eq c i) (sym at))) ∙ e)) [
    | inl h ↦ kept_more d (k c d h m g)
    | inr h ↦ has d ∙ or_right (old d) _ (and_from _ _ (member_any d (class_at p class).mentions (subst (λ (i : ℕ). Member d (class_at p i).mentions) (eqb-true c class h) m)) (is_given_at p d g))
  ]

  pub within_more : (start : ℕ → Bool) → old class ≡ true → AreWithin p start old → AreWithin p start new
  within_more start here w T kinds t s c e = elim (or_cases (old c) _ (sym (has c) ∙ e)) [
    | inl h ↦ w T kinds t s c h
    | inr h ↦ let r = and_parts (list_any (nat_eq c) (class_at p class).mentions) (is_given (length p.classes) c) h in mentioned (w T kinds t s class here) (any_member c (class_at p class).mentions r.0) (given_at p c r.1)
  ]

-- the class at a place of the list is there
pub any_there : (cs : List ℕ) (i d : ℕ) → i < length cs → d ≡ get_or cs i d → list_any (nat_eq d) cs ≡ true
any_there [] i d h e = absurd (omega arith)
any_there (x ∷ cs) zero d h e = rw (eq-eqb d x e) refl
any_there (x ∷ cs) (suc i) d h e = or_right (nat_eq d x) (list_any (nat_eq d) cs) (any_there cs i d (omega arith) e)
