-- What looking up fields and methods finds, where each class is visited once.
use Rattle.std.proofs.Common.{◌≡◌, ℕ, zero, suc, ◌+◌, ◌-◌, ◌<◌, List, [], ◌∷◌, ◌++◌, append-nil, add-one, length, get_or, take, drop, filter, find, flat_map, Bool, true, false, not, ◌||◌, ◌&&◌, cond, nat_eq, refl, sym, ◌∙◌, ap, arith, lit<, is_some, slice_get, Option, Some, None}
use Rattle.std.specs.{List.list_any, Option.option_or, Option.option_to_list}
use Rattle.std.proofs.{Math.Path.fun_ext, Math.Bool.or-false, Math.Bool.or_comm, lemmas.List.Concat.flat_map-append, lemmas.List.Folds.find-append}
use Rattle.std.proofs.{lemmas.List.Elements.filter_agree, lemmas.List.Elements.filter_more, lemmas.List.Elements.filter-append, Math.Seq.drop-cons}
use Rattle.std.proofs.lemmas.List.{take-append-drop}
use Rattle.indexmap.specs.{IndexMap.IndexMap, IndexMap.keys, IndexSet.insert_all}
use Rattle.jvm_model.specs.{declared.program.Program.Program, Selection.kept_of, Selection.has_code, Selection.redeclares}
use Rattle.jvm_model.specs.Classes.{class_at, method_at, class_bound, member, first_mentions, lineage_in, own_interfaces, upwards_in, upwards}
use Rattle.jvm_model.specs.Lookup.{is_field, is_method, field_path_in, field_path, find_field, pedigree_in, superinterfaces, interface_methods, one_or_first, find_in_interfaces, find_declared}
use Rattle.jvm_model.proofs.{Interfaces.member-first_mentions, Upwards.chain}
use Rattle.member_lookup.specs.Walks.{IsWalked, Visits, above_class, is_kept, is_open, nexts, walk}
use Rattle.member_lookup.proofs.{Ancestry.any_append, Walking.insert_append, Walking.visits_all}
use Rattle.member_lookup.proofs.MentionFacts.{find_mentions, flat_mentions, filter_mentions, filter_both, filter_flat, first_is, any_flat}

-- ---- the paths of look-ups are walks

one_flat : (f : ℕ → List ℕ) (o : Option ℕ) → elim o as (λ _. List ℕ) [ None ↦ [] | Some d ↦ f d ] ≡ flat_map f (option_to_list o)
one_flat f None = refl
one_flat f (Some d) = sym (append-nil (f d))

field_walk : (p : Program) (k : ℕ) → field_path_in p k ≡ walk p true k
field_walk p zero = refl
field_walk p (suc k) = fun_ext (λ c.
    let up = class_at p c in
    ap (λ (f : ℕ → List ℕ). c ∷ (flat_map f up.interfaces ++ (elim up.superclass as (λ _. List ℕ) [ None ↦ [] | Some d ↦ f d ]))) (field_walk p k)
    ∙ ap (λ l. c ∷ (flat_map (walk p true k) up.interfaces ++ l)) (one_flat (walk p true k) up.superclass)
    ∙ ap (λ l. c ∷ l) (sym (flat_map-append (walk p true k) up.interfaces (option_to_list up.superclass))))

pub path_walk : (p : Program) (c : ℕ) → field_path p c ≡ walk p true class_bound c
unfolding field_path
path_walk p c = ap (λ (f : ℕ → List ℕ). f c) (field_walk p class_bound)

pedigree_walk : (p : Program) (k : ℕ) → pedigree_in p k ≡ walk p false k
pedigree_walk p zero = refl
pedigree_walk p (suc k) = fun_ext (λ i.
    let above = (class_at p i).interfaces in
    ap (λ (f : ℕ → List ℕ). i ∷ flat_map f above) (pedigree_walk p k) ∙ ap (λ (xs : List ℕ). i ∷ flat_map (walk p false k) xs) (sym (append-nil above)))

pub superinterfaces_walk : (p : Program) (c : ℕ) → superinterfaces p c ≡ flat_map (λ d. above_class p d) (upwards p c)
unfolding superinterfaces
superinterfaces_walk p c = ap (λ (f : ℕ → List ℕ). flat_map (λ d. flat_map f (class_at p d).interfaces) (upwards p c)) (pedigree_walk p class_bound)

member_flat : (d : ℕ) (f g : ℕ → List ℕ) (xs : List ℕ) → ((x : ℕ) → member d (f x) ≡ member d (g x)) → member d (flat_map f xs) ≡ member d (flat_map g xs)
member_flat d f g xs e = sym (any_flat d f xs) ∙ ap (λ (test : ℕ → Bool). list_any test xs) (fun_ext e) ∙ any_flat d g xs

or_moved : (a b : Bool) → (a || (b || false)) ≡ (b || a)
or_moved a b = ap (λ x. a || x) (or-false b) ∙ or_comm a b

lineage_walk : (p : Program) (d k i : ℕ) → member d (lineage_in p k i) ≡ member d (walk p false k i)
lineage_walk p d zero i = refl
lineage_walk p d (suc k) i =
    let above = (class_at p i).interfaces in
    any_append d (flat_map (λ j. lineage_in p k j) above) (i ∷ []) ∙ or_moved (member d (flat_map (λ j. lineage_in p k j) above)) (nat_eq d i)
    ∙ ap (λ b. nat_eq d i || b) (member_flat d (λ j. lineage_in p k j) (λ j. walk p false k j) above (λ j. lineage_walk p d k j) ∙ ap (λ (xs : List ℕ). member d (flat_map (λ j. walk p false k j) xs)) (sym (append-nil above)))

pub own_walk : (p : Program) (d c : ℕ) → member d (own_interfaces p c) ≡ member d (above_class p c)
unfolding own_interfaces
own_walk p d c = member-first_mentions d (flat_map (λ j. lineage_in p class_bound j) (class_at p c).interfaces) ∙ member_flat d (λ j. lineage_in p class_bound j) (λ j. walk p false class_bound j) (class_at p c).interfaces (λ j. lineage_walk p d class_bound j)

-- ---- a search through classes

pub find_next : (f : ℕ → Bool) (g : ℕ → List ℕ) (cs : List ℕ) (i : ℕ) → i < length cs → find f (flat_map g (drop i cs)) ≡ option_or (find f (g (get_or cs i 0))) (find f (flat_map g (drop (i + 1) cs)))
find_next f g cs i h = rw (add-one, drop-cons cs i 0) (find-append f (g (get_or cs i 0)) (flat_map g (drop (suc i) cs)))

chain_above : (p : Program) (k : ℕ) (o : Option ℕ) → elim o as (λ _. List ℕ) [ None ↦ [] | Some d ↦ upwards_in p k d ] ≡ chain p k o
chain_above p k None = refl
chain_above p k (Some d) = refl

pub chain_step : (p : Program) (k c : ℕ) → 0 < k → chain p k (Some c) ≡ c ∷ chain p (k - 1) (class_at p c).superclass
chain_step p zero c h = absurd (omega arith)
chain_step p (suc k) c h = let e : k ≡ suc k - 1 = omega arith in ap (λ l. c ∷ l) (chain_above p k (class_at p c).superclass) ∙ ap (λ n. c ∷ chain p n (class_at p c).superclass) e

-- ---- methods of superinterfaces

-- what is chosen among methods
abbrev pub chosen : Program → List ℕ → Option ℕ
chosen p ms = one_or_first (filter (λ m. is_kept p (first_mentions (flat_map (λ n. above_class p (method_at p n).class) ms)) m) ms) ms

redeclared_is : (p : Program) (x : ℕ) (ms : List ℕ) → list_any (λ n. redeclares p n x) ms ≡ member (method_at p x).class (first_mentions (flat_map (λ n. above_class p (method_at p n).class) (first_mentions ms)))
redeclared_is p x ms =
    let c = (method_at p x).class in
    ap (λ (test : ℕ → Bool). list_any test ms) (fun_ext (λ n. own_walk p c (method_at p n).class))
    ∙ any_flat c (λ n. above_class p (method_at p n).class) ms
    ∙ sym (member-first_mentions c (flat_map (λ n. above_class p (method_at p n).class) ms))
    ∙ ap (λ l. member c l) (sym (flat_mentions (λ n. above_class p (method_at p n).class) ms))

kept_is : (p : Program) (ms : List ℕ) → first_mentions (filter (λ n. has_code p n) (kept_of p ms)) ≡ filter (λ m. is_kept p (first_mentions (flat_map (λ n. above_class p (method_at p n).class) (first_mentions ms))) m) (first_mentions ms)
kept_is p ms =
    ap (λ l. first_mentions l) (filter_both (λ n. has_code p n) (λ x. not (list_any (λ n. redeclares p n x) ms)) ms
    ∙ filter_agree (λ x. not (list_any (λ n. redeclares p n x) ms) && has_code p x) (λ m. is_kept p (first_mentions (flat_map (λ n. above_class p (method_at p n).class) (first_mentions ms))) m) (λ x. ap (λ b. not b && has_code p x) (redeclared_is p x ms)) ms)
    ∙ sym (filter_mentions (λ m. is_kept p (first_mentions (flat_map (λ n. above_class p (method_at p n).class) (first_mentions ms))) m) ms)

first_same : (xs ms : List ℕ) → one_or_first xs ms ≡ one_or_first xs (first_mentions ms)
first_same [] [] = refl
first_same [] (m ∷ ms) = refl
first_same (a ∷ []) ms = refl
first_same (a ∷ b ∷ xs) [] = refl
first_same (a ∷ b ∷ xs) (m ∷ ms) = refl

open_is : (p : Program) (c : ℕ) (name descriptor : List ℕ) → first_mentions (interface_methods p c name descriptor) ≡ insert_all nat_eq [] (flat_map (λ d. filter (λ n. is_open p name descriptor n) (class_at p d).methods) (first_mentions (superinterfaces p c)))
open_is p c name descriptor =
    ap (λ l. first_mentions l) (filter_flat (λ n. is_open p name descriptor n) (λ i. (class_at p i).methods) (superinterfaces p c))
    ∙ sym (flat_mentions (λ d. filter (λ n. is_open p name descriptor n) (class_at p d).methods) (superinterfaces p c))
    ∙ sym (first_is (flat_map (λ d. filter (λ n. is_open p name descriptor n) (class_at p d).methods) (first_mentions (superinterfaces p c))))

-- the choice among the methods of the superinterfaces, each noted once
pub interfaces_find : (p : Program) (c : ℕ) (name descriptor cs ms above : List ℕ) → cs ≡ first_mentions (superinterfaces p c) → ms ≡ insert_all nat_eq [] (flat_map (λ d. filter (λ n. is_open p name descriptor n) (class_at p d).methods) cs)
    → above ≡ insert_all nat_eq [] (flat_map (λ m. above_class p (method_at p m).class) ms) → one_or_first (filter (λ m. is_kept p above m) ms) ms ≡ find_in_interfaces p c name descriptor
unfolding find_in_interfaces
interfaces_find p c name descriptor cs ms above e f g =
    let all = interface_methods p c name descriptor in
    let noted : ms ≡ first_mentions all = f ∙ ap (λ l. insert_all nat_eq [] (flat_map (λ d. filter (λ n. is_open p name descriptor n) (class_at p d).methods) l)) e ∙ sym (open_is p c name descriptor) in
    ap (λ l. one_or_first (filter (λ m. is_kept p l m) ms) ms) (g ∙ first_is (flat_map (λ m. above_class p (method_at p m).class) ms))
    ∙ ap (λ l. chosen p l) noted
    ∙ ap (λ l. one_or_first l (first_mentions all)) (sym (kept_is p all))
    ∙ sym (first_same (first_mentions (filter (λ n. has_code p n) (kept_of p all))) all)

pub one_of_two : (a b : ℕ) (xs ms : List ℕ) → one_or_first (a ∷ b ∷ xs) ms ≡ one_or_first [] ms
one_of_two a b xs [] = refl
one_of_two a b xs (m ∷ ms) = refl

pub two_kept : (q : ℕ → Bool) (ms : List ℕ) (i a : ℕ) → i < length ms → filter q (take i ms) ≡ a ∷ [] → q (get_or ms i 0) ≡ true → one_or_first (filter q ms) ms ≡ one_or_first [] ms
two_kept q ms i a h e t =
    let more : filter q (take (i + 1) ms) ≡ a ∷ get_or ms i 0 ∷ [] = filter_more q ms i 0 h ∙ ap (λ l. l ++ cond (q (get_or ms i 0)) (get_or ms i 0 ∷ []) []) e ∙ ap (λ b. a ∷ cond b (get_or ms i 0 ∷ []) []) t in
    let whole : filter q ms ≡ a ∷ get_or ms i 0 ∷ filter q (drop (i + 1) ms) =
    ap (λ l. filter q l) (sym (take-append-drop (i + 1) ms)) ∙ filter-append q (take (i + 1) ms) (drop (i + 1) ms) ∙ ap (λ l. l ++ filter q (drop (i + 1) ms)) more in
    ap (λ l. one_or_first l ms) whole ∙ one_of_two a (get_or ms i 0) (filter q (drop (i + 1) ms)) ms

bound_positive : 0 < class_bound
unfolding class_bound
bound_positive = lit< tt

own_first_in : (p : Program) (k c f : ℕ) (name descriptor : List ℕ) → 0 < k → Some f ≡ find (λ n. is_field p name descriptor n) (class_at p c).fields → Some f ≡ find (λ n. is_field p name descriptor n) (flat_map (λ d. (class_at p d).fields) (walk p true k c))
own_first_in p zero c f name descriptor h e = absurd (omega arith)
own_first_in p (suc k) c f name descriptor h e =
    let rest = flat_map (λ d. walk p true k d) (nexts p true c) in
    sym (find-append (λ n. is_field p name descriptor n) (class_at p c).fields (flat_map (λ d. (class_at p d).fields) rest) ∙ ap (λ o. option_or o (find (λ n. is_field p name descriptor n) (flat_map (λ d. (class_at p d).fields) rest))) (sym e))

-- a class's own field is found first
pub own_first : (p : Program) (c f : ℕ) (name descriptor : List ℕ) → Some f ≡ find (λ n. is_field p name descriptor n) (class_at p c).fields → Some f ≡ find_field p c name descriptor
unfolding find_field
own_first p c f name descriptor e = own_first_in p class_bound c f name descriptor bound_positive e ∙ ap (λ cs. find (λ n. is_field p name descriptor n) (flat_map (λ d. (class_at p d).fields) cs)) (sym (path_walk p c))

pub path_find : (p : Program) (c : ℕ) (name descriptor path : List ℕ) → path ≡ first_mentions (field_path p c) → find (λ n. is_field p name descriptor n) (flat_map (λ d. (class_at p d).fields) path) ≡ find_field p c name descriptor
unfolding find_field
path_find p c name descriptor path e = ap (λ l. find (λ n. is_field p name descriptor n) (flat_map (λ d. (class_at p d).fields) l)) e ∙ find_mentions (λ n. is_field p name descriptor n) (λ d. (class_at p d).fields) (field_path p c)

-- ---- a climb from a class upwards

-- What is still to be visited from here is what was to be visited from the start.
pub record Climbs {S : Type 0} (p : Program) (c k : ℕ) (next : Option ℕ) (old seen : IndexMap ℕ ℕ S) : Type 0 where
  pub noted : insert_all nat_eq (keys seen) (flat_map (λ d. above_class p d) (chain p k next)) ≡ insert_all nat_eq (keys old) (flat_map (λ d. above_class p d) (upwards p c))
  pub walked : IsWalked p false seen

module _ {S : Type 0} (p : Program) (c : ℕ) where
  pub climbs_more : (k b d : ℕ) (xs : List ℕ) (above : Option ℕ) (old mid new : IndexMap ℕ ℕ S) → 0 < k → b ≡ class_bound → xs ≡ (class_at p d).interfaces → above ≡ (class_at p d).superclass → Climbs p c k (Some d) old mid
      → Visits p false (flat_map (λ i. walk p false b i) xs) mid new → Climbs p c (k - 1) above old new
  climbs_more k b d xs above old mid new h l e f m v =
      let rest = flat_map (λ x. above_class p x) (chain p (k - 1) above) in
      let here : chain p k (Some d) ≡ d ∷ chain p (k - 1) above = chain_step p k d h ∙ ap (λ o. d ∷ chain p (k - 1) o) (sym f) in
      record {
        noted = ap (λ ks. insert_all nat_eq ks rest) (v.noted ∙ ap (λ n. insert_all nat_eq (keys mid) (flat_map (λ i. walk p false n i) xs)) l ∙ ap (λ (ys : List ℕ). insert_all nat_eq (keys mid) (flat_map (λ i. walk p false class_bound i) ys)) e)
            ∙ sym (insert_append (keys mid) (above_class p d) rest)
            ∙ sym (ap (λ cs. insert_all nat_eq (keys mid) (flat_map (λ x. above_class p x) cs)) here)
            ∙ m.noted;
        walked = v.walked;
      }

-- ---- a search through classes, step by step

module _ (p : Program) (name descriptor : List ℕ) where
  pub field_step : (cs : List ℕ) (i : ℕ) (o r : Option ℕ) → i < length cs → o ≡ find (λ n. is_field p name descriptor n) (class_at p (get_or cs i 0)).fields
      → find (λ n. is_field p name descriptor n) (flat_map (λ d. (class_at p d).fields) (drop i cs)) ≡ r → option_or o (find (λ n. is_field p name descriptor n) (flat_map (λ d. (class_at p d).fields) (drop (i + 1) cs))) ≡ r
  field_step cs i o r h e g =
      ap (λ x. option_or x (find (λ n. is_field p name descriptor n) (flat_map (λ d. (class_at p d).fields) (drop (i + 1) cs)))) e ∙ sym (find_next (λ n. is_field p name descriptor n) (λ d. (class_at p d).fields) cs i h) ∙ g

  pub declared_step : (k c : ℕ) (o next above r : Option ℕ) → 0 < k → next ≡ Some c → above ≡ (class_at p c).superclass → o ≡ find (λ n. is_method p name descriptor n) (class_at p c).methods
      → find_declared p name descriptor (chain p k next) ≡ r → option_or o (find_declared p name descriptor (chain p (k - 1) above)) ≡ r
  declared_step k c o next above r h n a e g =
      let rest = chain p (k - 1) (class_at p c).superclass in
      let step : find_declared p name descriptor (chain p k (Some c)) ≡ option_or (find (λ n. is_method p name descriptor n) (class_at p c).methods) (find_declared p name descriptor rest) =
      ap (λ cs. find_declared p name descriptor cs) (chain_step p k c h) ∙ find-append (λ n. is_method p name descriptor n) (class_at p c).methods (flat_map (λ d. (class_at p d).methods) rest) in
      ap (λ x. option_or o (find_declared p name descriptor (chain p (k - 1) x))) a ∙ ap (λ x. option_or x (find_declared p name descriptor rest)) e ∙ sym step ∙ ap (λ x. find_declared p name descriptor (chain p k x)) (sym n) ∙ g

pub first_get : (ms : List ℕ) → slice_get ms 0 ≡ one_or_first [] ms
first_get [] = refl
first_get (m ∷ ms) = refl

pub listed_one : (o : Option ℕ) → true ≡ is_some o → (a : ℕ) × (option_to_list o ≡ a ∷ [])
listed_one None e = absurd (cc)
listed_one (Some a) e = (a, refl)

pub second_kept : (q : ℕ → Bool) (ms : List ℕ) (i : ℕ) (o : Option ℕ) → i < length ms → filter q (take i ms) ≡ option_to_list o → true ≡ is_some o → q (get_or ms i 0) ≡ true → slice_get ms 0 ≡ one_or_first (filter q ms) ms
second_kept q ms i o h e s t = let a = listed_one o s in first_get ms ∙ sym (two_kept q ms i a.0 h (e ∙ a.1) t)

-- what the walks note
module _ {S : Type 0} (p : Program) (c : ℕ) (old new : IndexMap ℕ ℕ S) where
  pub path_noted : (b : ℕ) → b ≡ class_bound → old.entries ≡ [] → Visits p true (walk p true b c) old new → keys new ≡ first_mentions (field_path p c)
  path_noted b l e v = visits_all p true (walk p true b c) old new e v ∙ first_is (walk p true b c) ∙ ap (λ n. first_mentions (walk p true n c)) l ∙ ap (λ cs. first_mentions cs) (sym (path_walk p c))

  pub superinterfaces_noted : old.entries ≡ [] → Visits p false (flat_map (λ d. above_class p d) (upwards p c)) old new → keys new ≡ first_mentions (superinterfaces p c)
  superinterfaces_noted e v = visits_all p false (flat_map (λ d. above_class p d) (upwards p c)) old new e v ∙ first_is (flat_map (λ d. above_class p d) (upwards p c)) ∙ ap (λ cs. first_mentions cs) (sym (superinterfaces_walk p c))
