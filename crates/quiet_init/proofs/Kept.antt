-- Look-ups in the program without quiet initialisers are as before: each function of a program is the same at every place that it
-- looks at, so the two functions are one path apart.
use Rattle.std.proofs.Common.{◌≡◌, ℕ, zero, suc, List, [], ◌∷◌, ◌++◌, not, ◌&&◌, cond, filter, flat_map, Option, Some, None, refl, ◌∙◌, ap}
use Rattle.std.specs.Prelude.{find}
use Rattle.std.specs.{List.list_any, Str.bytes_eq}
use Rattle.jvm_model.specs.declared.program.Program.{Program}
use Rattle.jvm_model.specs.{Builtin.object_class, Driver.no_arguments, Driver.plain_method_in, Linked.test_method, Selection.kept_of, Selection.has_code}
use Rattle.jvm_model.specs.Classes.{class_at, method_at, is_private, is_static, is_interface, class_bound, upwards, first_mentions, init_name, is_below, member}
use Rattle.jvm_model.specs.Lookup.{is_method, pedigree_in, superinterfaces, interface_methods, one_or_first, find_in_interfaces, or_else, find_declared, find_in_object, find_method, field_path_in, field_path, find_field}
use Rattle.quiet_init.specs.Quiet.{quiet}
use Rattle.quiet_init.proofs.Parts.{flags_kept, above_kept, interfaces_kept, methods_kept, fields_kept, field_names_kept, descriptors_kept, upwards_kept, own_interfaces_kept}

module _ (p : Program) where
  pub is_below_kept : (c d : ℕ) → is_below (quiet p) c d ≡ is_below p c d
  unfolding is_below
  is_below_kept c d = ap (λ (xs : List ℕ). member d xs) (upwards_kept p c)

  pedigree_kept : (k : ℕ) → ◌≡◌ {A = ℕ → List ℕ} (λ c. pedigree_in (quiet p) k c) (λ c. pedigree_in p k c)
  pedigree_kept zero = λ i c. []
  pedigree_kept (suc k) = λ i c. c ∷ flat_map (λ j. pedigree_kept k i j) (interfaces_kept p c i)

  superinterfaces_kept : (c : ℕ) → superinterfaces (quiet p) c ≡ superinterfaces p c
  unfolding superinterfaces
  superinterfaces_kept c = λ k. flat_map (λ d. flat_map (λ i. pedigree_kept class_bound k i) (interfaces_kept p d k)) (upwards_kept p c k)

  pub declared_kept : (name descriptor cs : List ℕ) → find_declared (quiet p) name descriptor cs ≡ find_declared p name descriptor cs
  unfolding quiet
  declared_kept name descriptor cs = λ k. find (λ n. is_method p name descriptor n) (flat_map (λ d. methods_kept p d k) cs)

  methods_of_interfaces_kept : (c : ℕ) (name descriptor : List ℕ) → interface_methods (quiet p) c name descriptor ≡ interface_methods p c name descriptor
  unfolding quiet
  methods_of_interfaces_kept c name descriptor = λ k. filter (λ n. is_method p name descriptor n && (not (is_private (method_at p n).flags) && not (is_static (method_at p n).flags)))
      (flat_map (λ i. methods_kept p i k) (superinterfaces_kept c k))

  kept_of_kept : (ms : List ℕ) → kept_of (quiet p) ms ≡ kept_of p ms
  unfolding quiet
  kept_of_kept ms = λ k. filter (λ x. not (list_any (λ n. member (method_at p x).class (own_interfaces_kept p (method_at p n).class k)) ms)) ms

  in_interfaces_kept : (c : ℕ) (name descriptor : List ℕ) → find_in_interfaces (quiet p) c name descriptor ≡ find_in_interfaces p c name descriptor
  unfolding find_in_interfaces quiet
  in_interfaces_kept c name descriptor =
      ap (λ (ms : List ℕ). one_or_first (first_mentions (filter (λ n. has_code p n) (kept_of (quiet p) ms))) ms) (methods_of_interfaces_kept c name descriptor)
      ∙ ap (λ (ns : List ℕ). one_or_first (first_mentions (filter (λ n. has_code p n) ns)) (interface_methods p c name descriptor)) (kept_of_kept (interface_methods p c name descriptor))

  in_object_kept : (name descriptor : List ℕ) → find_in_object (quiet p) name descriptor ≡ find_in_object p name descriptor
  unfolding quiet
  in_object_kept name descriptor = ap (λ (ms : List ℕ). find (λ n. is_method p name descriptor n && not (is_static (method_at p n).flags)) ms) (methods_kept p object_class)

  pub find_method_kept : (c : ℕ) (name descriptor : List ℕ) → find_method (quiet p) c name descriptor ≡ find_method p c name descriptor
  unfolding find_method
  find_method_kept c name descriptor = λ k. cond (bytes_eq name init_name)
      (declared_kept name descriptor (c ∷ []) k)
      (cond (is_interface (flags_kept p c k))
      (or_else (declared_kept name descriptor (c ∷ []) k) (or_else (in_object_kept name descriptor k) (in_interfaces_kept c name descriptor k)))
      (or_else (find_declared_up c name descriptor k) (in_interfaces_kept c name descriptor k)))
    where
      find_declared_up : (c : ℕ) (name descriptor : List ℕ) → find_declared (quiet p) name descriptor (upwards (quiet p) c) ≡ find_declared p name descriptor (upwards p c)
      find_declared_up c name descriptor = declared_kept name descriptor (upwards (quiet p) c) ∙ ap (λ (cs : List ℕ). find_declared p name descriptor cs) (upwards_kept p c)

  field_path_kept : (k : ℕ) → ◌≡◌ {A = ℕ → List ℕ} (λ c. field_path_in (quiet p) k c) (λ c. field_path_in p k c)
  field_path_kept zero = λ i c. []
  field_path_kept (suc k) = λ i c. (c ∷ flat_map (λ j. field_path_kept k i j) (interfaces_kept p c i)) ++ (elim (above_kept p c i) as (λ x. List ℕ) [ None ↦ [] | Some d ↦ field_path_kept k i d ])

  pub find_field_kept : (c : ℕ) (name descriptor : List ℕ) → find_field (quiet p) c name descriptor ≡ find_field p c name descriptor
  unfolding find_field field_path
  find_field_kept c name descriptor = λ k. find (λ n. bytes_eq (field_names_kept p n k) name && bytes_eq (descriptors_kept p n k) descriptor)
      (flat_map (λ d. fields_kept p d k) (field_path_kept class_bound k c))

  plain_method_kept : (name : List ℕ) (ms : List ℕ) → plain_method_in (quiet p) name ms ≡ plain_method_in p name ms
  unfolding quiet
  plain_method_kept name [] = refl
  plain_method_kept name (m ∷ ms) = ap (λ (o : Option ℕ). cond (not (is_static (method_at p m).flags) && (bytes_eq (method_at p m).name name && bytes_eq (method_at p m).descriptor no_arguments)) (Some m) o) (plain_method_kept name ms)

  pub constructor_kept : (c : ℕ) → plain_method_in (quiet p) init_name (class_at (quiet p) c).methods ≡ plain_method_in p init_name (class_at p c).methods
  constructor_kept c = λ k. plain_method_kept init_name (methods_kept p c k) k

  pub test_method_kept : (c : ℕ) (name : List ℕ) → test_method (quiet p) c name ≡ test_method p c name
  test_method_kept c name = λ k. declared_kept name no_arguments (upwards_kept p c k) k
