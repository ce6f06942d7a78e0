-- What a test reaches, by the marks of heads.
use Rattle.std.proofs.Common.{◌≡◌, ◌↔◌, ◌+◌, ◌-◌, ◌<◌, ℕ, Bool, true, false, not, ◌||◌, ◌&&◌, List, [], ◌∷◌, map, filter, length, refl, sym, ◌∙◌, ap, subst, nat_eq, inl, inr, Option, Some, None}
use Rattle.std.proofs.lemmas.Bool.{cases_Bool, eqb-true, eq-eqb, and_parts, and_from, or_cases, or_left, or_right}
use Rattle.jvm_model.specs.declared.program.Program.{Program}
use Rattle.jvm_model.specs.declared.values.{Kind.Kind, Location.Location, Touch.Touch}
use Rattle.jvm_model.specs.declared.values.Location.TheVariants as place
use Rattle.jvm_model.specs.{Builtin.builtin_count, Classes.class_at, Linked.IsGiven, State.test_at, World.same}
use Rattle.jvm_model.proofs.Locations.{same_true}
use Rattle.order_law.specs.{Conflicts.Member, Histories.Touches, OwnRecord.first_places, RecordForm.numbers_ascend}
use Rattle.order_law.specs.Reach.{inner_class, ReachesIn, own, touched, mentioned, is_settled_in, IsReachIn}
use Rattle.access_tags.specs.Given.{is_given}
use Rattle.access_tags.specs.HeadMarks.{is_class, is_head_of, touches_class, is_marked}
use Rattle.access_tags.proofs.Closing.{given_at, is_given_at}

-- the first mentions of locations
member_filter : (p : Location → Bool) (L : Location) (ls : List Location) → p L ≡ true → Member L ls → Member L (filter p ls)
member_filter p L [] h m = absurd m
member_filter p L (M ∷ ls) h (inl q) = rw (ap p (sym q) ∙ h) (inl q)
member_filter p L (M ∷ ls) h (inr m) = elim (cases_Bool (p M)) [ inl e ↦ rw e (inr (member_filter p L ls h m)) | inr e ↦ rw e (member_filter p L ls h m) ]

pub filter_member : (p : Location → Bool) (L : Location) (ls : List Location) → Member L (filter p ls) → Member L ls
filter_member p L [] m = absurd m
filter_member p L (M ∷ ls) m = elim (cases_Bool (p M)) [
  | inl e ↦ elim (subst (λ (xs : List Location). Member L xs) (kept e) m) [ inl q ↦ inl q | inr k ↦ inr (filter_member p L ls k) ]
  | inr e ↦ inr (filter_member p L ls (subst (λ (xs : List Location). Member L xs) (gone e) m))
]
  where
    kept : p M ≡ true → filter p (M ∷ ls) ≡ M ∷ filter p ls
    kept e = rw e refl

    gone : p M ≡ false → filter p (M ∷ ls) ≡ filter p ls
    gone e = rw e refl

pub first_member : (L : Location) (ls : List Location) → Member L ls → Member L (first_places ls)
first_member L [] m = absurd m
first_member L (M ∷ ls) (inl q) = inl q
first_member L (M ∷ ls) (inr m) = elim (cases_Bool (same M L)) [
  | inl h ↦ inl (sym (same_true M L h))
  | inr h ↦ inr (member_filter (λ N. not (same M N)) L (first_places ls) (rw h refl) (first_member L ls m))
]

pub member_first : (L : Location) (ls : List Location) → Member L (first_places ls) → Member L ls
member_first L [] m = absurd m
member_first L (M ∷ ls) (inl q) = inl q
member_first L (M ∷ ls) (inr m) = inr (member_first L ls (filter_member (λ N. not (same M N)) L (first_places ls) m))

-- the heads of a class among touches
class_is : (y : Option ℕ) (c : ℕ) → is_class y c ≡ true → y ≡ Some c
class_is None c e = absurd (cc)
class_is (Some d) c e = ap (λ (i : ℕ). Some i) (eqb-true d c e)

head_is : (k : ℕ → Kind) (c : ℕ) (L : Location) → is_head_of k c L ≡ true → (o : ℕ) × (L ≡ place.Head o) × (inner_class (k o) ≡ Some c)
head_is k c (place.Head o) e = (o, refl, class_is (inner_class (k o)) c e)
head_is k c _ e = absurd (cc)

abbrev locations : List Touch → List Location
locations ts = map (λ (x : Touch). x.location) ts

touched_member : (k : ℕ → Kind) (c : ℕ) (ts : List Touch) → touches_class k c ts ≡ true → (o : ℕ) × Member (place.Head o) (locations ts) × (inner_class (k o) ≡ Some c)
touched_member k c [] e = absurd (cc)
touched_member k c (x ∷ ts) e = elim (or_cases (is_head_of k c x.location) (touches_class k c ts) e) [
  | inl h ↦ let r = head_is k c x.location h in (r.0, inl (sym r.1), r.2)
  | inr h ↦ let r = touched_member k c ts h in (r.0, inr r.1, r.2)
]

member_touched : (k : ℕ → Kind) (c o : ℕ) (ts : List Touch) → Member (place.Head o) (locations ts) → inner_class (k o) ≡ Some c → touches_class k c ts ≡ true
member_touched k c o [] m e = absurd m
member_touched k c o (x ∷ ts) (inl q) e = or_left (is_head_of k c x.location) (touches_class k c ts) (subst (λ (L : Location). is_head_of k c L ≡ true) q (ap (λ (y : Option ℕ). is_class y c) e ∙ eq-eqb c c refl))
member_touched k c o (x ∷ ts) (inr m) e = or_right (is_head_of k c x.location) (touches_class k c ts) (member_touched k c o ts m e)

-- the classes with which a test begins, and all that they lead to
module _ (p : Program) (T : Touches) (kinds : ℕ → ℕ → Kind) (t : ℕ) (marks : List Bool)
    (m : (c : ℕ) → c < length p.classes → is_marked (length p.classes) marks t c ≡ touches_class (kinds t) c (T t)) (s : ℕ → Bool)
    (starts : (c : ℕ) → s c ≡ ((nat_eq c (test_at p t).class && is_given (length p.classes) c) || (is_marked (length p.classes) marks t c && is_given (length p.classes) c))) where
  given : (c : ℕ) (b : Bool) → (b && is_given (length p.classes) c) ≡ true → (b ≡ true) × IsGiven p c
  given c b e = let r = and_parts b (is_given (length p.classes) c) e in (r.0, given_at p c r.1)

  pub start_reached : (c : ℕ) → s c ≡ true → ReachesIn p T kinds t c
  start_reached c e = elim (or_cases (nat_eq c (test_at p t).class && is_given (length p.classes) c) (is_marked (length p.classes) marks t c && is_given (length p.classes) c) (sym (starts c) ∙ e)) [
    | inl h ↦ let r = given c _ h in let q = eqb-true c (test_at p t).class r.0 in subst (λ (i : ℕ). ReachesIn p T kinds t i) (sym q) (own (subst (λ (i : ℕ). IsGiven p i) q r.1))
    | inr h ↦ let r = given c _ h in let x = touched_member (kinds t) c (T t) (sym (m c r.1.1) ∙ r.0) in touched x.0 (first_member (place.Head x.0) (locations (T t)) x.1) x.2 r.1
  ]

  pub all_reached : (f : ℕ → Bool) → ((c : ℕ) → s c ≡ true → f c ≡ true) → ((c d : ℕ) → f c ≡ true → Member d (class_at p c).mentions → IsGiven p d → f d ≡ true) → {c : ℕ} → ReachesIn p T kinds t c → f c ≡ true
  all_reached f kept closed (own g) = let c = (test_at p t).class in kept c (starts c ∙ or_left _ _ (and_from _ _ (eq-eqb c c refl) (is_given_at p c g)))
  all_reached f kept closed (touched o {c} i e g) = kept c (starts c ∙ or_right _ _ (and_from _ _ (m c g.1 ∙ member_touched (kinds t) c o (T t) (member_first (place.Head o) (locations (T t)) i) e) (is_given_at p c g)))
  all_reached f kept closed (mentioned {c} {d} r i g) = closed c d (all_reached f kept closed r) i g

-- what the code gives is what the test reaches
pub reach_is : (p : Program) (S : Touches) (kinds : ℕ → ℕ → Kind) (t n : ℕ) (marks : List Bool) (none one two all : ℕ → Bool) (settled : Bool) (numbers : List ℕ) →
    n ≡ length p.classes → ((c : ℕ) → c < n → is_marked n marks t c ≡ touches_class (kinds t) c (S t)) →
    ((c : ℕ) → none c ≡ false) → ((c : ℕ) → one c ≡ (none c || (nat_eq c (test_at p t).class && is_given n c))) → ((c : ℕ) → two c ≡ (one c || (is_marked n marks t c && is_given n c))) →
    ((c : ℕ) → two c ≡ true → all c ≡ true) → ((c d : ℕ) → all c ≡ true → Member d (class_at p c).mentions → IsGiven p d → all d ≡ true) →
    (((c : ℕ) → two c ≡ true → ReachesIn p S kinds t c) → (c : ℕ) → all c ≡ true → ReachesIn p S kinds t c) →
    settled ≡ is_settled_in p S t → numbers_ascend numbers ≡ true → ((j : ℕ) → Member j numbers ↔ (all (j + (builtin_count - 1)) ≡ true)) →
    IsReachIn p S kinds t (record { settled = settled; classes = numbers })
reach_is p S kinds t n marks none one two all settled numbers e m x y z kept closed least s a b =
    let marked : (c : ℕ) → c < length p.classes → is_marked (length p.classes) marks t c ≡ touches_class (kinds t) c (S t) = subst (λ (k : ℕ). (c : ℕ) → c < k → is_marked k marks t c ≡ touches_class (kinds t) c (S t)) e m in
    let first : (c : ℕ) → one c ≡ (nat_eq c (test_at p t).class && is_given (length p.classes) c) = λ c. y c ∙ (ap (λ (v : Bool). v || (nat_eq c (test_at p t).class && is_given n c)) (x c) ∙ ap (λ (k : ℕ). nat_eq c (test_at p t).class && is_given k c) e) in
    let starts : (c : ℕ) → two c ≡ ((nat_eq c (test_at p t).class && is_given (length p.classes) c) || (is_marked (length p.classes) marks t c && is_given (length p.classes) c)) =
    λ c. z c ∙ (ap (λ (v : Bool). v || (is_marked n marks t c && is_given n c)) (first c) ∙ ap (λ (k : ℕ). (nat_eq c (test_at p t).class && is_given (length p.classes) c) || (is_marked k marks t c && is_given k c)) e) in
    record {
      settled = s;
      ascending = a;
      classes = λ j. (λ i. least (start_reached p S kinds t marks marked two starts) (j + (builtin_count - 1)) ((b j).0 i), λ r. (b j).1 (all_reached p S kinds t marks marked two starts all kept closed r));
    }
