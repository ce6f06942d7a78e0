-- What is known of a class file that some bytes spell.
use Rattle.std.proofs.Common.{◌≡◌, ◌<◌, ◌≤◌, ◌^◌, ℕ, true, false, not, List, [], ◌∷◌, length, Option, Some, None, refl, sym, ap, subst, ◌∙◌, All}
use Rattle.std.proofs.lemmas.Bool.{leb-true, not-true, and_parts}
use Rattle.class_pool.specs.declared.pool.{Entry.Entry, Entry.TheVariants.Utf8, Entry.TheVariants.Class}
use Rattle.class_pool.specs.{Pool.entry_of, Pool.is_class, Pool.class_name_of, PoolGrammar.IsPool}
use Rattle.class_pool.proofs.{WriteLaw.pool_kept, GrammarFacts.counted_all, GrammarFacts.counted_length}
use Rattle.class_pool.proofs.EntryFacts.{NamesText, NamesClass, EntryFacts, class_from, plain_name, units_are, entry_facts}
use Rattle.et_base.specs.Names.{is_class_name, starts_array}
use Rattle.class_reader.specs.declared.parts.{MemberPart.MemberPart, ClassParts.ClassParts}
use Rattle.class_reader.specs.{Indices.Index, Names.begins_array, Names.is_own_class}
use Rattle.class_reader.specs.ClassGrammar.{HeadText, InterfacesText, MembersText, parts_of, BodyText, class_bytes, IsClass}
use Rattle.class_reader.proofs.AttributeFacts.{index_facts}
use Rattle.class_reader.proofs.MemberFacts.{FieldFacts, MethodFacts, MembersFacts, fields_facts, methods_facts}

-- a class that is no array
pub record OwnClass (slots : List (Option Entry)) (index : ℕ) : Type 0 where
  pub name : ℕ
  pub entry : entry_of slots index ≡ Some (Class name)
  pub text : NamesText is_class_name slots name

-- a class, by an index of two bytes
pub record NamesShort (slots : List (Option Entry)) (index : ℕ) : Type 0 where
  pub small : index < 2 ^ 16
  pub class : NamesClass slots index

pub record ClassFacts (c : ClassParts) : Type 0 where
  pub entries : EntryFacts c.pool
  pub minor : c.minor < 2 ^ 16
  pub lowest : 50 ≤ c.major
  pub highest : c.major ≤ 52
  pub flags : c.flags < 2 ^ 16
  pub this_small : c.this_class < 2 ^ 16
  pub this_class : OwnClass c.pool c.this_class
  pub super_class : NamesShort c.pool c.super_class
  pub interfaces : All (NamesShort c.pool) c.interfaces
  pub few_interfaces : length c.interfaces < 2 ^ 16
  pub fields : MembersFacts (FieldFacts c.pool) c.pool c.fields
  pub methods : MembersFacts (MethodFacts c.pool) c.pool c.methods

-- ---- this class

starts_as : (us : List ℕ) → begins_array (Some (Utf8 us)) ≡ starts_array us
starts_as [] = refl
starts_as (u ∷ us) = refl

own_from : (slots : List (Option Entry)) (i : ℕ) → (c : NamesClass slots i) → not (begins_array (entry_of slots c.name)) ≡ true → OwnClass slots i
own_from slots i c bare =
    let plain : starts_array c.text.units ≡ false = sym (starts_as c.text.units) ∙ sym (ap begins_array c.text.entry) ∙ not-true _ bare in
    record { name = c.name; entry = c.entry; text = record { units = c.text.units; entry = c.text.entry; fits = plain_name c.text.units c.text.fits plain } }

own_is_class : (slots : List (Option Entry)) (e : Option Entry) → is_own_class slots e ≡ true → is_class e ≡ true
own_is_class slots None h = absurd cc
own_is_class slots (Some (Class name)) h = refl
own_is_class slots (Some e) h = absurd cc

own_class : (slots : List (Option Entry)) (i : ℕ) → IsPool slots → is_own_class slots (entry_of slots i) ≡ true → OwnClass slots i
own_class slots i pool h =
    let c = class_from slots i pool (own_is_class slots (entry_of slots i) h) in
    own_from slots i c (sym (ap (is_own_class slots) c.entry) ∙ h)

pub own_name_is : (slots : List (Option Entry)) (i : ℕ) → (c : OwnClass slots i) → class_name_of slots (entry_of slots i) ≡ Some c.text.units
own_name_is slots i c = ap (class_name_of slots) c.entry ∙ units_are is_class_name slots c.name c.text

-- ---- the file

named_short : (slots : List (Option Entry)) → IsPool slots → (text : List ℕ) (i : ℕ) → Index is_class slots text i → NamesShort slots i
named_short slots pool text i s = let f = index_facts is_class slots text i s in record { small = f.0; class = class_from slots i pool f.1 }

abbrev IsVersion : ℕ × ℕ → Type 0
IsVersion version = (version.0 < 2 ^ 16) × (50 ≤ version.1) × (version.1 ≤ 52)

head_facts : (text : List ℕ) (version : ℕ × ℕ) → HeadText text version → IsVersion version
head_facts text version (magic, t1, m1, e1, s1, (right, (minor, t2, m2, e2, s2, (major, t3, m3, e3, s3, (within, (nil, is)))))) =
    let w = and_parts _ _ within in
    subst IsVersion (sym is) (s2.1, leb-true _ _ w.0, leb-true _ _ w.1)

interfaces_facts : (slots : List (Option Entry)) → IsPool slots → (text : List ℕ) (xs : List ℕ) → InterfacesText slots text xs → All (NamesShort slots) xs × (length xs < 2 ^ 16)
interfaces_facts slots pool text xs (n, one, more, e, short, counted) = (
  counted_all (λ _ _. Index is_class slots) (NamesShort slots) (λ _ _ t i s. named_short slots pool t i s) n more xs counted,
  subst (λ k. k < 2 ^ 16) (sym (counted_length (λ _ _. Index is_class slots) n more xs counted)) short.1,
)

abbrev MembersSo : List (Option Entry) → List MemberPart × List MemberPart → Type 0
MembersSo slots members = MembersFacts (FieldFacts slots) slots members.0 × MembersFacts (MethodFacts slots) slots members.1

members_so : (slots : List (Option Entry)) → IsPool slots → (text : List ℕ) (members : List MemberPart × List MemberPart) → MembersText slots text members → MembersSo slots members
members_so slots pool text members (fields, t1, m1, e1, s1, (methods, t2, m2, e2, s2, (u, skipped, is))) =
    subst (MembersSo slots) (sym is) (fields_facts slots t1 fields s1, methods_facts slots pool t2 methods s2)

body_facts : (version : ℕ × ℕ) (slots : List (Option Entry)) → IsVersion version → IsPool slots → (text : List ℕ) (c : ClassParts) → BodyText version slots text c → ClassFacts c
body_facts version slots v pool text c (flags, t1, m1, e1, s1, (this, t2, m2, e2, s2, (super, t3, m3, e3, s3, (interfaces, t4, m4, e4, s4, (members, s5, is))))) =
    let own = index_facts (is_own_class slots) slots t2 this s2 in
    let above = interfaces_facts slots pool t4 interfaces s4 in
    let both = members_so slots pool m4 members s5 in
    let made : ClassFacts (parts_of version slots flags this super interfaces members) = record {
      entries = entry_facts slots pool;
      minor = v.0;
      lowest = v.1;
      highest = v.2;
      flags = s1.1;
      this_small = own.0;
      this_class = own_class slots this pool own.1;
      super_class = named_short slots pool t3 super s3;
      interfaces = above.0;
      few_interfaces = above.1;
      fields = both.0;
      methods = both.1;
    } in
    subst ClassFacts (sym is) made

spelled_facts : (bytes : List ℕ) (c : ClassParts) → class_bytes bytes c → ClassFacts c
unfolding class_bytes
spelled_facts bytes c (version, t1, m1, e1, head, (slots, t2, m2, e2, pool, body)) = body_facts version slots (head_facts t1 version head) (pool_kept t2 slots pool) m2 c body

pub class_facts : (c : ClassParts) → IsClass c → ClassFacts c
class_facts c h = spelled_facts h.bytes c h.spelled
