-- Each class file is spelled by what is written.
use Rattle.std.proofs.Common.{◌≡◌, ℕ, ◌+◌, ◌<◌, ◌^◌, List, [], ◌++◌, length, Ok, refl, sym, ap, subst, arith}
use Rattle.std.specs.Prelude.{codes}
use Rattle.std.specs.Int.{w32, to_be_bytes}
use Rattle.std.proofs.lemmas.List.{append-nil}
use Rattle.class_pool.specs.{Grammar.Sized, Pool.is_class, PoolGrammar.IsPool, PoolGrammar.PoolText, PoolGrammar.pool_spelling}
use Rattle.class_pool.proofs.WriteLaw.{pool_written, pool_kept}
use Rattle.class_reader.specs.{declared.parts.MemberPart.MemberPart, declared.parts.ClassParts.ClassParts, Faults.class_of, Faults.with_offsets, Indices.Index}
use Rattle.class_reader.specs.Names.{is_code, is_constant_value, is_own_class, is_field_name, is_field_type, is_method_name, is_method_type}
use Rattle.class_reader.specs.ClassGrammar.{AllSkippedText, ConstantText, PartText, field_of, FieldText, FieldsText, method_of, MethodText, MethodsText, HeadText, InterfacesText, pair_of, MembersText, parts_of, BodyText, class_bytes, IsClass}
use Rattle.class_reader.proofs.ClassLaw.{class_again}
use Rattle.class_write.specs.Spelling.{short_bytes, listed_bytes, sized_bytes, attribute_bytes, names_of, part_bytes, field_bytes, method_bytes, head_bytes, body_bytes, class_spelling}
use Rattle.class_write.proofs.PartLaw.{Slots, shorter_same, index_again, form_again, listed_again, named, attributes_again}
use Rattle.class_write.proofs.{MapLaw.constant_same, CodeLaw.sized_part_again}

-- ---- members

field_again : (slots : Slots) → length slots + 1 < 2 ^ 16 → (before : List MemberPart) (text : List ℕ) (m : MemberPart) → FieldText slots before text m → FieldText slots before (field_bytes (names_of slots) m) m
field_again slots few before text m (flags, a, b, e, s, (name, c, d, f, n, (descriptor, g, h, i, t, (once, (constant, found, is))))) =
    let v = attributes_again is_constant_value (ConstantText slots descriptor) slots (names_of slots).constant_value short_bytes (named slots (codes "ConstantValue") few) (λ o x p. shorter_same (ConstantText slots descriptor) o (sized_bytes (short_bytes x)) x p (constant_same slots descriptor o x p)) h constant found in
    let attributes : List ℕ = attribute_bytes (names_of slots).constant_value short_bytes constant in
    let made : MemberPart = field_of flags name descriptor constant in
    let spelled : FieldText slots before (field_bytes (names_of slots) made) made = (
      flags,
      short_bytes flags,
      short_bytes name ++ (short_bytes descriptor ++ attributes),
      refl,
      (refl, s.1),
      (name, short_bytes name, short_bytes descriptor ++ attributes, refl, form_again is_field_name slots c name n, (descriptor, short_bytes descriptor, attributes, refl, form_again is_field_type slots g descriptor t, (once, (constant, v.spelled, refl)))),
    ) in
    subst (λ z. FieldText slots before (field_bytes (names_of slots) z) z) (sym is) spelled

method_again : (slots : Slots) → length slots + 1 < 2 ^ 16 → (before : List MemberPart) (text : List ℕ) (m : MemberPart) → MethodText slots before text m → MethodText slots before (method_bytes (names_of slots) m) m
method_again slots few before text m (flags, a, b, e, s, (name, c, d, f, n, (descriptor, g, h, i, t, (once, (code, j, k, l, found, (right, (none, is))))))) =
    let v = attributes_again is_code (Sized (PartText slots)) slots (names_of slots).code (part_bytes (names_of slots)) (named slots (codes "Code") few) (sized_part_again slots few) j code found in
    let attributes : List ℕ = attribute_bytes (names_of slots).code (part_bytes (names_of slots)) code in
    let made : MemberPart = method_of flags name descriptor code in
    let spelled : MethodText slots before (method_bytes (names_of slots) made) made = (
      flags,
      short_bytes flags,
      short_bytes name ++ (short_bytes descriptor ++ attributes),
      refl,
      (refl, s.1),
      (
        name,
        short_bytes name,
        short_bytes descriptor ++ attributes,
        refl,
        form_again is_method_name slots c name n,
        (
          descriptor,
          short_bytes descriptor,
          attributes,
          refl,
          form_again (is_method_type flags) slots g descriptor t,
          (once, (code, attributes, [], sym (append-nil attributes), v.spelled, (right, (refl, refl)))),
        ),
      ),
    ) in
    subst (λ z. MethodText slots before (method_bytes (names_of slots) z) z) (sym is) spelled

-- ---- the file

head_again : (text : List ℕ) (version : ℕ × ℕ) → HeadText text version → HeadText (to_be_bytes w32 3405691582 ++ (short_bytes version.0 ++ short_bytes version.1)) version
head_again text version (magic, a, b, e, s, (right, (minor, c, d, f, t, (major, g, h, i, u, (fits, (none, is)))))) =
    let made : HeadText (to_be_bytes w32 3405691582 ++ (short_bytes minor ++ short_bytes major)) (minor, major) = (
      3405691582,
      to_be_bytes w32 3405691582,
      short_bytes minor ++ short_bytes major,
      refl,
      (refl, omega arith),
      (
        refl,
        (
          minor,
          short_bytes minor,
          short_bytes major,
          refl,
          (refl, t.1),
          (major, short_bytes major, [], sym (append-nil (short_bytes major)), (refl, u.1), (fits, (refl, refl))),
        ),
      ),
    ) in
    subst (λ (v : ℕ × ℕ). HeadText (to_be_bytes w32 3405691582 ++ (short_bytes v.0 ++ short_bytes v.1)) v) (sym is) made

none_skipped : (slots : Slots) → AllSkippedText slots (short_bytes 0) tt
none_skipped slots = (0, short_bytes 0, [], refl, (refl, omega arith), (refl, refl))

members_again : (slots : Slots) → length slots + 1 < 2 ^ 16 → (text : List ℕ) (members : List MemberPart × List MemberPart) → MembersText slots text members
    → MembersText slots (listed_bytes (field_bytes (names_of slots)) members.0 ++ (listed_bytes (method_bytes (names_of slots)) members.1 ++ short_bytes 0)) members
members_again slots few text members (fields, a, b, e, s, (methods, c, d, f, t, (others, skipped, is))) =
    let first : FieldsText slots (listed_bytes (field_bytes (names_of slots)) fields) fields = listed_again (λ before _. FieldText slots before) (field_bytes (names_of slots)) (λ before n o m. field_again slots few before o m) a fields s in
    let second : MethodsText slots (listed_bytes (method_bytes (names_of slots)) methods) methods = listed_again (λ before _. MethodText slots before) (method_bytes (names_of slots)) (λ before n o m. method_again slots few before o m) c methods t in
    let made : MembersText slots (listed_bytes (field_bytes (names_of slots)) fields ++ (listed_bytes (method_bytes (names_of slots)) methods ++ short_bytes 0)) (pair_of fields methods) =
    (fields, listed_bytes (field_bytes (names_of slots)) fields, listed_bytes (method_bytes (names_of slots)) methods ++ short_bytes 0, refl, first, (methods, listed_bytes (method_bytes (names_of slots)) methods, short_bytes 0, refl, second, (tt, none_skipped slots, refl))) in
    subst (λ (z : List MemberPart × List MemberPart). MembersText slots (listed_bytes (field_bytes (names_of slots)) z.0 ++ (listed_bytes (method_bytes (names_of slots)) z.1 ++ short_bytes 0)) z) (sym is) made

interfaces_again : (slots : Slots) (text : List ℕ) (interfaces : List ℕ) → InterfacesText slots text interfaces → InterfacesText slots (listed_bytes short_bytes interfaces) interfaces
interfaces_again slots text interfaces s = listed_again (λ _ _. Index is_class slots) short_bytes (λ before n o i. index_again is_class slots o i) text interfaces s

body_again : (version : ℕ × ℕ) (slots : Slots) → length slots + 1 < 2 ^ 16 → (text : List ℕ) (c : ClassParts) → BodyText version slots text c → BodyText version slots (body_bytes c) c × (c.pool ≡ slots) × (c.minor ≡ version.0) × (c.major ≡ version.1)
body_again version slots few text c (flags, a, b, e, s, (this, d, f, g, t, (super, h, i, j, u, (interfaces, k, l, m, v, (members, w, is))))) =
    let made : ClassParts = parts_of version slots flags this super interfaces members in
    let last : List ℕ = listed_bytes (field_bytes (names_of slots)) members.0 ++ (listed_bytes (method_bytes (names_of slots)) members.1 ++ short_bytes 0) in
    let spelled : BodyText version slots (body_bytes made) made = (
      flags,
      short_bytes flags,
      short_bytes this ++ (short_bytes super ++ (listed_bytes short_bytes interfaces ++ last)),
      refl,
      (refl, s.1),
      (
        this,
        short_bytes this,
        short_bytes super ++ (listed_bytes short_bytes interfaces ++ last),
        refl,
        index_again (is_own_class slots) slots d this t,
        (
          super,
          short_bytes super,
          listed_bytes short_bytes interfaces ++ last,
          refl,
          index_again is_class slots h super u,
          (interfaces, listed_bytes short_bytes interfaces, last, refl, interfaces_again slots k interfaces v, (members, members_again slots few l members w, refl)),
        ),
      ),
    ) in
    subst (λ z. BodyText version slots (body_bytes z) z × (z.pool ≡ slots) × (z.minor ≡ version.0) × (z.major ≡ version.1)) (sym is) (spelled, refl, refl, refl)

-- what is written spells the class file
pub class_written : (c : ClassParts) → IsClass c → class_bytes (class_spelling c) c
unfolding class_bytes
class_written c h =
    let written : (text : List ℕ) → class_bytes text c → class_bytes (class_spelling c) c = λ text (version, a, b, e, s, (slots, d, f, g, p, body)).
    let kept : IsPool slots = pool_kept d slots p in
    let r = body_again version slots kept.few f c body in
    let head : HeadText (head_bytes c) version = subst (λ n. HeadText (to_be_bytes w32 3405691582 ++ (short_bytes n ++ short_bytes c.major)) version) (sym r.2) (subst (λ n. HeadText (to_be_bytes w32 3405691582 ++ (short_bytes version.0 ++ short_bytes n)) version) (sym r.3) (head_again a version s)) in
    let pool : PoolText (pool_spelling c.pool) slots = subst (λ z. PoolText (pool_spelling z) slots) (sym r.1) (pool_written slots kept) in
    (version, head_bytes c, pool_spelling c.pool ++ body_bytes c, refl, head, (slots, pool_spelling c.pool, body_bytes c, refl, pool, r.0)) in
    written h.bytes h.spelled

-- what is written is read as the same
pub class_reread : (c : ClassParts) → IsClass c → class_of (class_spelling c) ≡ Ok c
class_reread c h = ap (λ r. with_offsets (length (class_spelling c)) r) (class_again (class_spelling c) c (class_written c h))
