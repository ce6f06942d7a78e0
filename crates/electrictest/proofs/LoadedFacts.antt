-- What a suite that is loaded is made of.
use Rattle.std.proofs.Common.{◌≤◌, ◌≡◌, ℕ, zero, suc, ◌+◌, List, [], ◌∷◌, length, map, slice_get, false, refl, sym, ap, ◌∙◌, subst, arith, Option, Some, None, Result, Ok, Err, All}
use Rattle.std.proofs.lemmas.List.Elements.{All-cons}
use Rattle.sha2.specs.Sha256.{sha256}
use Rattle.jvm_model.specs.declared.program.Program.{Program}
use Rattle.class_pool.specs.{declared.fault.Fault.Fault, Grammar.IsBytes}
use Rattle.class_reader.specs.declared.{parts.ClassParts.ClassParts, fault.ClassFault.ClassFault}
use Rattle.class_reader.specs.{Class.class_at, ClassGrammar.IsClass, Faults.with_offsets, Faults.class_of}
use Rattle.class_reader.proofs.ClassLaw.{class_takes}
use Rattle.class_link.specs.{declared.fault.LinkFault.LinkFault, Link.Links, Link.LinksBy}
use Rattle.order_law.specs.{declared.records.Prints.Prints, Pairing.PairedList, Pairing.no_more, Pairing.one_more}
use Rattle.outside.specs.Depot.{Files, content}
use Rattle.suite_load.specs.declared.{suite_text.SuiteText.SuiteText, suite_text.SuiteRefusal.SuiteRefusal, load_fault.LoadFault.LoadFault}
use Rattle.suite_load.specs.declared.suite_text.SuiteRefusal.TheVariants as refusals
use Rattle.suite_load.specs.{declared.loaded.Loaded.Loaded, SuiteForm.suite_of}
use Rattle.suite_load.proofs.{GoodLines.IsGood, GoodLines.good_suite, SumLaws.by_content}
use Rattle.suite_load.specs.Loading.{◌>>=◌, within, file_of, file_limit, room_after, suite_answer, suite_in, class_answer, class_in, classes_in, read_in, bytes_of, sums_in, lines_of, names_in, typed_answer, loaded_of, checked_of, ReadGives, Loads}
use Rattle.type_frames.specs.{declared.fault.CheckFault.CheckFault, Typing.check_fault, Typing.IsTyped}
use Rattle.type_checker.proofs.Typed.{typed_none}
use Rattle.class_link.proofs.LinkLaw.{links_linked}
use Rattle.electrictest.specs.declared.status.Status.{Status}
use Rattle.electrictest.specs.{Loads.LoadsNamed, Loads.LoadsAny, Loads.answered, Loads.prepared, EarlierRecords.HoldBytes, EarlierRecords.SumsTell}

-- a step that went on
went_on : {A B : Type 0} (r : Result A LoadFault) (f : A → Result B LoadFault) (y : B) → (r >>= f) ≡ Ok y → (x : A) × (r ≡ Ok x) × (f x ≡ Ok y)
went_on (Ok x) f y e = (x, refl, e)
went_on (Err d) f y e = absurd (cc)

-- ---- files that were read

-- these class files are those of the names
abbrev pub AreRead : Files → List (List ℕ) → List ClassParts → Type 0
AreRead files names cs = PairedList (λ name c. class_of (bytes_of files name) ≡ Ok c) names cs

answered_ok : (name : List ℕ) (r : Result ClassParts ClassFault) (c : ClassParts) → class_answer name r ≡ Ok c → r ≡ Ok c
answered_ok name (Ok x) c e = cc
answered_ok name (Err f) c e = absurd (cc)

one_read : (files : Files) (read : ℕ) (name : List ℕ) (x : ClassParts × ℕ) → class_in files read name ≡ Ok x → class_of (bytes_of files name) ≡ Ok x.0
unfolding class_in file_of
one_read files read name x e =
    let a = went_on (file_of files (room_after read) name) _ x e in
    let b = went_on (class_answer name (class_of a.0)) _ x a.2 in
    let same : b.0 ≡ x.0 = (let z : ◌≡◌ {A = Result (ClassParts × ℕ) LoadFault} (Ok (b.0, read + length a.0)) (Ok x) = b.2 in cc) in
    ap class_of (by_content (room_after read) name a.0 (content files name) a.1) ∙ answered_ok name (class_of a.0) x.0 (subst (λ (c : ClassParts). class_answer name (class_of a.0) ≡ Ok c) same b.1)

all_read : (files : Files) (read : ℕ) (names : List (List ℕ)) (cs : List ClassParts) → classes_in files read names ≡ Ok cs → AreRead files names cs
unfolding classes_in
all_read files read [] cs e = subst (AreRead files []) (let same : [] ≡ cs = cc in same) no_more
all_read files read (name ∷ names) cs e =
    let a = went_on (class_in files read name) _ cs e in
    let b = went_on (classes_in files a.0.1 names) _ cs a.2 in
    subst (AreRead files (name ∷ names)) (let same : a.0.0 ∷ b.0 ≡ cs = cc in same) (one_more (one_read files read name a.0 a.1) (all_read files a.0.1 names b.0 b.1))

pub as_many : (files : Files) (names : List (List ℕ)) (cs : List ClassParts) → AreRead files names cs → length cs ≡ length names
as_many files [] [] no_more = refl
as_many files [] (c ∷ cs) r = elim r [ ]
as_many files (name ∷ names) [] r = elim r [ ]
as_many files (name ∷ names) (c ∷ cs) (one_more r rs) = ap suc (as_many files names cs rs)

placed_ok : (total : ℕ) (r : Result ClassParts Fault) (c : ClassParts) → with_offsets total r ≡ Ok c → r ≡ Ok c
placed_ok total (Ok x) c e = cc
placed_ok total (Err f) c e = absurd (cc)

is_class : (bytes : List ℕ) (c : ClassParts) → IsBytes bytes → class_of bytes ≡ Ok c → IsClass c
is_class bytes c fits e = record { bytes = bytes; spelled = class_takes bytes c fits (placed_ok (length bytes) (class_at bytes) c e) }

pub are_classes : (files : Files) (names : List (List ℕ)) (cs : List ClassParts) → HoldBytes files → AreRead files names cs → All IsClass cs
are_classes files [] [] hold no_more = λ k d h. absurd (omega (arith, h))
are_classes files [] (c ∷ cs) hold r = elim r [ ]
are_classes files (name ∷ names) [] hold r = elim r [ ]
are_classes files (name ∷ names) (c ∷ cs) hold (one_more r rs) = All-cons IsClass c cs (is_class (bytes_of files name) c (hold name) r) (are_classes files names cs hold rs)

-- the sums of the class files of these names
abbrev pub sums_of : Files → List (List ℕ) → List (List ℕ)
sums_of files names = map sha256 (map (bytes_of files) names)

-- files of one sum are equal, and so are the classes that they spell
pub sums_tell : (before now : Files) → SumsTell before now → (names : List (List ℕ)) (cs ds : List ClassParts) → AreRead before names cs → AreRead now names ds → (j : ℕ) (h : List ℕ) →
    slice_get (sums_of before names) j ≡ Some h → slice_get (sums_of now names) j ≡ Some h → slice_get cs j ≡ slice_get ds j
sums_tell before now tell [] [] [] no_more no_more j h x y = refl
sums_tell before now tell [] [] (d ∷ ds) r q j h x y = elim q [ ]
sums_tell before now tell [] (c ∷ cs) ds r q j h x y = elim r [ ]
sums_tell before now tell (name ∷ names) [] ds r q j h x y = elim r [ ]
sums_tell before now tell (name ∷ names) (c ∷ cs) [] r q j h x y = elim q [ ]
sums_tell before now tell (name ∷ names) (c ∷ cs) (d ∷ ds) (one_more r rs) (one_more q qs) zero h x y =
    let same : sha256 (bytes_of before name) ≡ sha256 (bytes_of now name) = cc in
    let both : ◌≡◌ {A = Result ClassParts ClassFault} (Ok c) (Ok d) = sym r ∙ (ap class_of (tell name same) ∙ q) in
    cc
sums_tell before now tell (name ∷ names) (c ∷ cs) (d ∷ ds) (one_more r rs) (one_more q qs) (suc j) h x y = sums_tell before now tell names cs ds rs qs j h x y

-- ---- a suite that was loaded

pub record IsLoaded (files : Files) (name : List ℕ) (suite : SuiteText) (l : Loaded) : Type 0 where
  pub classes : List ClassParts
  pub suite_is : suite_in files name ≡ Ok suite
  pub read : AreRead files suite.classes classes
  pub links : Links classes (lines_of suite) (Ok l.checked)
  pub names : l.names ≡ names_in suite l.checked
  pub prints : l.prints ≡ sums_in files name suite
  pub checks : check_fault l.checked ≡ None

module _ (suite : SuiteText) (sums : Prints) (l : Loaded) where
  typed_from : (p : Program) (o : Option CheckFault) → ◌≡◌ {A = Result Loaded LoadFault} (Ok l) (typed_answer p o >>= λ t. Ok (loaded_of suite sums t)) → (l ≡ loaded_of suite sums p) × (o ≡ None)
  typed_from p None e = (cc, refl)
  typed_from p (Some f) e = absurd (cc)

  checked_from : (linked : Result Program LinkFault) → Ok l ≡ checked_of suite sums linked → (p : Program) × (linked ≡ Ok p) × (l ≡ loaded_of suite sums p) × (check_fault p ≡ None)
  unfolding checked_of
  checked_from (Ok p) e = let t = typed_from p (check_fault p) e in (p, refl, t.0, t.1)
  checked_from (Err f) e = absurd (cc)

module _ (files : Files) (name : List ℕ) (l : Loaded) where
  read_from : (x : SuiteText × List ClassParts) → read_in files name ≡ Ok x → (suite_in files name ≡ Ok x.0) × AreRead files x.0.classes x.1
  unfolding read_in
  read_from x e =
      let a = went_on (suite_in files name) _ x e in
      let b = went_on (classes_in files 0 a.0.classes) _ x a.2 in
      let same : (a.0, b.0) ≡ x = (let z : ◌≡◌ {A = Result (SuiteText × List ClassParts) LoadFault} (Ok (a.0, b.0)) (Ok x) = b.2 in cc) in
      subst (λ (y : SuiteText × List ClassParts). (suite_in files name ≡ Ok y.0) × AreRead files y.0.classes y.1) same (a.1, all_read files 0 a.0.classes b.0 b.1)

  gives_from : (read : Result (SuiteText × List ClassParts) LoadFault) → read_in files name ≡ read → ReadGives (sums_in files name) read (Ok l) → (suite : SuiteText) × IsLoaded files name suite l
  gives_from (Err f) e h = absurd (cc)
  gives_from (Ok x) e h =
      let r = read_from x e in
      let sums = sums_in files name x.0 in
      let c = checked_from x.0 sums l h.1 h.3 in
      let by = subst (λ (z : Result Program LinkFault). LinksBy h.0 x.1 (lines_of x.0) z) c.1 h.2 in (
        x.0,
        subst (IsLoaded files name x.0) (sym c.2) (record { classes = x.1; suite_is = r.0; read = r.1; links = (h.0, by); names = refl; prints = refl; checks = c.3 }),
      )

  loaded_ok : (loading : Result Loaded LoadFault) → ◌≡◌ {A = Result Loaded Status} (Ok l) (answered loading) → loading ≡ Ok l
  loaded_ok (Ok x) e = cc
  loaded_ok (Err f) e = absurd (cc)

  pub loaded_from : LoadsNamed files name (Ok l) → (suite : SuiteText) × IsLoaded files name suite l
  loaded_from h = gives_from (read_in files name) refl (subst (Loads files name) (loaded_ok h.0 h.2) h.1)

-- where the form isn't eager
plain_is : (files : Files) (name : List ℕ) (l : Loaded) (plain : Result Loaded Status) → LoadsNamed files name plain → ◌≡◌ {A = Result Loaded Status} (Ok l) (prepared false plain) → LoadsNamed files name (Ok l)
plain_is files name l (Ok x) h e = let same : l ≡ x = cc in subst (λ (z : Loaded). LoadsNamed files name (Ok z)) (sym same) h
plain_is files name l (Err s) h e = absurd (cc)

pub plain_named : (files : Files) (name : List ℕ) (l : Loaded) → LoadsAny files false (Some (Ok name)) (Ok l) → LoadsNamed files name (Ok l)
plain_named files name l h = plain_is files name l h.0 h.1 h.2

suite_answered : (r : Result SuiteText SuiteRefusal) (suite : SuiteText) → suite_answer r ≡ Ok suite → r ≡ Ok suite
suite_answered (Ok x) suite e = cc
suite_answered (Err (refusals.Suite line why)) suite e = absurd (cc)
suite_answered (Err refusals.NoMemory) suite e = absurd (cc)

-- its text is in form
pub is_good : (files : Files) (name : List ℕ) (suite : SuiteText) → suite_in files name ≡ Ok suite → IsGood suite
unfolding suite_in
is_good files name suite e =
    let a = went_on (file_of files file_limit name) _ suite e in
    good_suite a.0 suite (suite_answered (suite_of a.0) suite a.2)

-- and its program is typed
pub loaded_typed : (files : Files) (name : List ℕ) (suite : SuiteText) (l : Loaded) → HoldBytes files → IsLoaded files name suite l → IsTyped l.checked
loaded_typed files name suite l hold h =
    let good = is_good files name suite h.suite_is in
    let few : length h.classes ≤ 1024 = subst (λ (n : ℕ). n ≤ 1024) (sym (as_many files suite.classes h.classes h.read)) good.few_classes in
    typed_none l.checked (links_linked h.classes (lines_of suite) (Ok l.checked) few (are_classes files suite.classes h.classes hold h.read) good.lines h.links) h.checks

-- files that hold the same suite text
pub same_suite : (before now : Files) (name : List ℕ) → content before name ≡ content now name → suite_in before name ≡ suite_in now name
unfolding suite_in file_of
same_suite before now name same = ap (λ o. within file_limit name o >>= λ bytes. suite_answer (suite_of bytes)) same
