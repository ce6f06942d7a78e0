-- Methods that classes declare, class by class, and those that are kept.
use Rattle.std.proofs.Common.{◌≡◌, ℕ, zero, suc, ◌-◌, ◌<◌, List, [], ◌∷◌, ◌++◌, append-nil, filter, find, flat_map, Bool, true, false, not, ◌&&◌, cond, nat_eq, refl, sym, ◌∙◌, ap, arith, sub-one, Option, Some, None}
use Rattle.std.specs.{List.list_any, Option.option_or}
use Rattle.std.proofs.{lemmas.List.Elements.filter_agree, lemmas.List.Folds.find-append}
use Rattle.indexmap.specs.IndexSet.{insert_all}
use Rattle.jvm_model.specs.{declared.program.Program.Program, Builtin.object_class}
use Rattle.jvm_model.specs.Classes.{class_at, class_bound, method_at, member, is_interface, upwards_in, upwards}
use Rattle.jvm_model.specs.Selection.{declared_in, special_path, is_open_like, candidates, all_interfaces, kept_of, redeclares, has_code, one_with_code, kept_method}
use Rattle.member_lookup.specs.Walks.{is_kept}
use Rattle.jvm_model.proofs.Interfaces.{member-first_mentions}
use Rattle.member_lookup.proofs.MentionFacts.{filter_both, filter_flat, first_is, any_flat}
use Rattle.vm_calls.specs.Choices.{above_of}

-- ---- a walk upwards

module _ (p : Program) (f : ℕ → Bool) where
  abbrev declared_above : ℕ → Option ℕ → Option ℕ
  declared_above k None = None
  declared_above k (Some d) = declared_in p f (upwards_in p k d)

  above_is : (k : ℕ) (o : Option ℕ) → find f (flat_map (λ c. (class_at p c).methods) (elim o as (λ _. List ℕ) [ None ↦ [] | Some d ↦ upwards_in p k d ])) ≡ declared_above k o
  above_is k None = refl
  above_is k (Some d) = refl

  declared_step : (k c : ℕ) → 0 < k → declared_in p f (upwards_in p k c) ≡ option_or (find f (class_at p c).methods) (declared_above (k - 1) (class_at p c).superclass)
  declared_step zero c h = absurd (omega arith)
  declared_step (suc k) c h =
      rw sub-one (find-append f (class_at p c).methods (flat_map (λ d. (class_at p d).methods) (elim (class_at p c).superclass as (λ _. List ℕ) [ None ↦ [] | Some d ↦ upwards_in p k d ]))
      ∙ ap (λ o. option_or (find f (class_at p c).methods) o) (above_is k (class_at p c).superclass))

  pub declared_here : (k c n : ℕ) → 0 < k → Some n ≡ find f (class_at p c).methods → Some n ≡ declared_in p f (upwards_in p k c)
  declared_here k c n h e = ap (λ o. option_or o (declared_above (k - 1) (class_at p c).superclass)) e ∙ sym (declared_step k c h)

  pub declared_last : (k c : ℕ) → 0 < k → None ≡ find f (class_at p c).methods → None ≡ (class_at p c).superclass → None ≡ declared_in p f (upwards_in p k c)
  declared_last k c h e s = ap (λ o. declared_above (k - 1) o) s ∙ (ap (λ o. option_or o (declared_above (k - 1) (class_at p c).superclass)) e ∙ sym (declared_step k c h))

  pub declared_next : (k c d : ℕ) (r : Option ℕ) → 0 < k → None ≡ find f (class_at p c).methods → Some d ≡ (class_at p c).superclass → r ≡ declared_in p f (upwards_in p (k - 1) d) → r ≡ declared_in p f (upwards_in p k c)
  declared_next k c d r h e s g = g ∙ (ap (λ o. declared_above (k - 1) o) s ∙ (ap (λ o. option_or o (declared_above (k - 1) (class_at p c).superclass)) e ∙ sym (declared_step k c h)))

  -- an interface, and Object after it
  pub declared_both : (c : ℕ) → option_or (find f (class_at p c).methods) (find f (class_at p object_class).methods) ≡ declared_in p f (c ∷ object_class ∷ [])
  declared_both c =
      ap (λ xs. option_or (find f (class_at p c).methods) (find f xs)) (sym (append-nil (class_at p object_class).methods))
      ∙ sym (find-append f (class_at p c).methods ((class_at p object_class).methods ++ []))

  pub special_both : (c : ℕ) → is_interface (class_at p c).flags ≡ true → declared_in p f (special_path p c) ≡ option_or (find f (class_at p c).methods) (find f (class_at p object_class).methods)
  special_both c e = ap (λ b. declared_in p f (cond b (c ∷ object_class ∷ []) (upwards p c))) e ∙ sym (declared_both c)

  pub special_up : (c : ℕ) → is_interface (class_at p c).flags ≡ false → declared_in p f (special_path p c) ≡ declared_in p f (upwards_in p class_bound c)
  special_up c e = ap (λ b. declared_in p f (cond b (c ∷ object_class ∷ []) (upwards p c))) e

-- ---- kept methods

redeclared : (p : Program) (ms above : List ℕ) (x : ℕ) → above ≡ insert_all nat_eq [] (flat_map (λ n. above_of p n) ms) → list_any (λ n. redeclares p n x) ms ≡ member (method_at p x).class above
redeclared p ms above x e =
    let c = (method_at p x).class in
    any_flat c (λ n. above_of p n) ms
    ∙ (sym (member-first_mentions c (flat_map (λ n. above_of p n) ms)) ∙ ap (λ l. member c l) (sym (e ∙ first_is (flat_map (λ n. above_of p n) ms))))

kept_same : (p : Program) (ms above : List ℕ) → above ≡ insert_all nat_eq [] (flat_map (λ n. above_of p n) ms) → filter (λ n. is_kept p above n) ms ≡ filter (λ n. has_code p n) (kept_of p ms)
kept_same p ms above e =
    filter_agree (λ n. is_kept p above n) (λ x. not (list_any (λ n. redeclares p n x) ms) && has_code p x) (λ x. ap (λ b. not b && has_code p x) (sym (redeclared p ms above x e))) ms
    ∙ sym (filter_both (λ n. has_code p n) (λ x. not (list_any (λ n. redeclares p n x) ms)) ms)

-- the kept methods with code, from the methods of the superinterfaces
pub kept_is : (p : Program) (m c : ℕ) (is ms above kept : List ℕ) → is ≡ all_interfaces p c → ms ≡ flat_map (λ i. filter (λ n. is_open_like p m n) (class_at p i).methods) is
    → above ≡ insert_all nat_eq [] (flat_map (λ n. above_of p n) ms) → kept ≡ filter (λ n. is_kept p above n) ms → one_with_code kept ≡ kept_method p m c
unfolding kept_method
kept_is p m c is ms above kept i e g h =
    let all : ms ≡ candidates p m c = e ∙ (ap (λ xs. flat_map (λ j. filter (λ n. is_open_like p m n) (class_at p j).methods) xs) i ∙ sym (filter_flat (λ n. is_open_like p m n) (λ j. (class_at p j).methods) (all_interfaces p c))) in
    ap one_with_code (h ∙ (kept_same p ms above g ∙ ap (λ xs. filter (λ n. has_code p n) (kept_of p xs)) all))
