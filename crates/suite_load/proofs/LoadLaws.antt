-- Refusals of loading, and its parts joined.
use Rattle.std.proofs.Common.{◌≡◌, ◌≤◌, ◌<◌, ℕ, ◌+◌, List, [], ◌∷◌, ◌++◌, length, map, take, drop, get_or, Option, Some, None, Result, Ok, Err, IfSome, refl, sym, ap, ◌∙◌, subst}
use Rattle.std.proofs.lemmas.Option.{IfSome_then}
use Rattle.std.proofs.lemmas.List.{take_more, take_all, take-append-drop, drop_more, append_assoc, append-nil, map-append}
use Rattle.et_base.specs.Answers.{Fails}
use Rattle.outside.specs.Depot.{Files, OfHeld, DepotView, FailedAt}
use Rattle.outside.proofs.CountLemmas.{rose_later}
use Rattle.class_reader.specs.declared.parts.ClassParts.{ClassParts}
use Rattle.jvm_model.specs.declared.program.{Names.Names, Program.Program}
use Rattle.order_law.specs.declared.records.Prints.{Prints}
use Rattle.dep_record.specs.Hashes.{prints_of}
use Rattle.suite_load.specs.declared.{print_sums.PrintSums.PrintSums, suite_text.SuiteText.SuiteText, load_fault.LoadFault.LoadFault, loaded.Loaded.Loaded}
use Rattle.suite_load.specs.declared.load_fault.LoadFault.TheVariants as fault
use Rattle.suite_load.specs.Loading.{◌>>=◌, suite_in, class_in, classes_in, read_in, bytes_of, sums_in, ReadGives, Loads, IsReadAmong, names_in}
use Rattle.suite_load.specs.{LoadAnswers.says, LoadAnswers.IsProper, LoadAnswers.LoadAnswers, LoadAnswers.Checks, Sums.AreSums, Sums.AreMoreSums}

-- ---- refusals

-- what is said of the fault that a definition gives
pub fails_on : {X : Type 0} (P : LoadFault → Type 0) (o : Option LoadFault) (given : Result X LoadFault) → ((f : LoadFault) → given ≡ Err f → P f) → Fails o given → IfSome o P
fails_on P None given h r = tt
fails_on P (Some f) given h r = h f r

pub fails_weaker : {X Y : Type 0} (o : Option LoadFault) (given : Result Y LoadFault) (part : Result X LoadFault) → ((f : LoadFault) → part ≡ Err f → given ≡ Err f) → Fails o part → Fails o given
fails_weaker None given part h r = tt
fails_weaker (Some f) given part h r = h f r

-- what is said of a fault of a part is said of it in the whole
pub proper_weaker : (P Q : List ℕ → Type 0) (e : LoadFault) → ((read : List ℕ) → P read → Q read) → IsProper P e → IsProper Q e
proper_weaker P Q (fault.Depot name) h r = h name r
proper_weaker P Q e h r = r

-- a depot that failed late failed
failed_later : (first old new : DepotView) (name : List ℕ) → first.faults ≤ old.faults → FailedAt old new name → FailedAt first new name
failed_later first old new name le f = record { rose = rose_later first.faults old.faults new.faults le f.rose; named = f.named }

-- ---- class files one after another

-- the class files of these names are these, and with them so many bytes are read
abbrev pub AreRead : Files → ℕ → List (List ℕ) → List ClassParts → ℕ → Type 0
AreRead files read [] classes now = (classes ≡ []) × (now ≡ read)
AreRead files read (name ∷ names) classes now =
    (c : ClassParts) × (next : ℕ) × (rest : List ClassParts) × (class_in files read name ≡ Ok (c, next)) × AreRead files next names rest now × (classes ≡ c ∷ rest)

read_more : (files : Files) (read : ℕ) (front : List (List ℕ)) (name : List ℕ) (classes : List ClassParts) (now next : ℕ) (c : ClassParts) → AreRead files read front classes now → class_in files now name ≡ Ok (c, next) → AreRead files read (front ++ name ∷ []) (classes ++ c ∷ []) next
read_more files read [] name classes now next c h e = (c, next, [], subst (λ n. class_in files n name ≡ Ok (c, next)) h.1 e, (refl, refl), ap (λ cs. cs ++ c ∷ []) h.0)
read_more files read (first ∷ front) name classes now next c (d, then, rest, g, more, f) e = (d, then, rest ++ c ∷ [], g, read_more files then front name rest now next c more e, ap (λ cs. cs ++ c ∷ []) f)

read_gives : (files : Files) (read : ℕ) (names : List (List ℕ)) (classes : List ClassParts) (now : ℕ) → AreRead files read names classes now → classes_in files read names ≡ Ok classes
unfolding classes_in
read_gives files read [] classes now h = ap Ok (sym h.0)
read_gives files read (name ∷ names) classes now (c, next, rest, g, more, f) =
    ap (λ r. r >>= λ x. classes_in files x.1 names >>= λ cs. Ok (x.0 ∷ cs)) g ∙ ap (λ r. r >>= λ cs. Ok (c ∷ cs)) (read_gives files next names rest now more) ∙ ap Ok (sym f)

read_fails : (files : Files) (read : ℕ) (front : List (List ℕ)) (name : List ℕ) (back : List (List ℕ)) (classes : List ClassParts) (now : ℕ) (e : LoadFault) → AreRead files read front classes now → class_in files now name ≡ Err e → classes_in files read (front ++ (name ∷ back)) ≡ Err e
unfolding classes_in
read_fails files read [] name back classes now e h g = ap (λ r. r >>= λ x. classes_in files x.1 back >>= λ cs. Ok (x.0 ∷ cs)) (subst (λ n. class_in files n name ≡ Err e) h.1 g)
read_fails files read (first ∷ front) name back classes now e (c, next, rest, k, more, f) g =
    ap (λ r. r >>= λ x. classes_in files x.1 (front ++ (name ∷ back)) >>= λ cs. Ok (x.0 ∷ cs)) k ∙ ap (λ r. r >>= λ cs. Ok (c ∷ cs)) (read_fails files next front name back rest now e more g)

-- the names before a place, the one there, and those behind it
parted : (names : List (List ℕ)) (i : ℕ) (name : List ℕ) → i < length names → name ≡ get_or names i name → names ≡ take i names ++ (name ∷ drop (i + 1) names)
parted names i name lt e = sym (take-append-drop i names) ∙ ap (λ xs. take i names ++ xs) (drop_more names i name lt ∙ ap (λ n. n ∷ drop (i + 1) names) (sym e))

-- ---- the class files of the names so far

pub so_far_more : (files : Files) (names : List (List ℕ)) (i : ℕ) (name : List ℕ) (classes : List ClassParts) (now next : ℕ) (c : ClassParts) → i < length names → name ≡ get_or names i name →
    AreRead files 0 (take i names) classes now → class_in files now name ≡ Ok (c, next) → AreRead files 0 (take (i + 1) names) (classes ++ c ∷ []) next
so_far_more files names i name classes now next c lt e h there =
    let longer = take_more names i name lt ∙ ap (λ n. take i names ++ n ∷ []) (sym e) in
    subst (λ ns. AreRead files 0 ns (classes ++ c ∷ []) next) (sym longer) (read_more files 0 (take i names) name classes now next c h there)

pub so_far_fails : (files : Files) (names : List (List ℕ)) (i : ℕ) (name : List ℕ) (classes : List ClassParts) (now : ℕ) (e : LoadFault) → i < length names → name ≡ get_or names i name →
    AreRead files 0 (take i names) classes now → Fails (says e) (class_in files now name) → Fails (says e) (classes_in files 0 names)
so_far_fails files names i name classes now e lt at h there =
    fails_weaker (says e) (classes_in files 0 names) (class_in files now name)
    (λ f k. ap (classes_in files 0) (parted names i name lt at) ∙ read_fails files 0 (take i names) name (drop (i + 1) names) classes now f h k) there

pub so_far_all : (files : Files) (names : List (List ℕ)) (i : ℕ) (classes : List ClassParts) (now : ℕ) → length names ≤ i → AreRead files 0 (take i names) classes now → classes_in files 0 names ≡ Ok classes
so_far_all files names i classes now le h = read_gives files 0 names classes now (subst (λ ns. AreRead files 0 ns classes now) (take_all i names le) h)

read_here : (files : Files) (names : List (List ℕ)) (i : ℕ) (name : List ℕ) (classes : List ClassParts) (now : ℕ) → i < length names → name ≡ get_or names i name → AreRead files 0 (take i names) classes now → IsReadAmong files names name
read_here files names i name classes now lt e h = (take i names, drop (i + 1) names, parted names i name lt e, rw (read_gives files 0 (take i names) classes now h) refl)

pub so_far_proper : (names : List (List ℕ)) (i : ℕ) (name : List ℕ) (classes : List ClassParts) (now : ℕ) (e : LoadFault) (first old new : DepotView) → i < length names → name ≡ get_or names i name → OfHeld new.told (λ files. AreRead files 0 (take i names) classes now) → first.faults ≤ old.faults →
    IsProper (λ read. (read ≡ name) × FailedAt old new read) e → IsProper (λ read. OfHeld new.told (λ files. IsReadAmong files names read) × FailedAt first new read) e
so_far_proper names i name classes now e first old new lt at h le d =
    proper_weaker (λ read. (read ≡ name) × FailedAt old new read) (λ read. OfHeld new.told (λ files. IsReadAmong files names read) × FailedAt first new read) e
    (λ read f. (λ files may. subst (IsReadAmong files names) (sym f.0) (read_here files names i name classes now lt at (h files may)), failed_later first old new read le f.1)) d

-- ---- loading as a whole

-- the suite text isn't read
pub unread_suite : (files : Files) (name : List ℕ) (e : LoadFault) → Fails (says e) (suite_in files name) → LoadAnswers files name (Err e)
unfolding read_in
unread_suite files name e h =
    fails_on (λ f. Loads files name (Err f)) (says e) (suite_in files name)
    (λ f k. subst (λ r. ReadGives (sums_in files name) r (Err f)) (sym (ap (λ r. r >>= λ s. classes_in files 0 s.classes >>= λ cs. Ok (s, cs)) k)) refl) h

-- a class file isn't read
pub unread_class : (files : Files) (name : List ℕ) (suite : SuiteText) (names : List (List ℕ)) (e : LoadFault) → names ≡ suite.classes → suite_in files name ≡ Ok suite → Fails (says e) (classes_in files 0 names) → LoadAnswers files name (Err e)
unfolding read_in
unread_class files name suite names e n s h =
    fails_on (λ f. Loads files name (Err f)) (says e) (classes_in files 0 names)
    (λ f k.
    let whole = ap (λ r. r >>= λ t. classes_in files 0 t.classes >>= λ cs. Ok (t, cs)) s ∙ ap (λ r. r >>= λ cs. Ok (suite, cs)) (ap (classes_in files 0) (sym n) ∙ k) in
    subst (λ r. ReadGives (sums_in files name) r (Err f)) (sym whole) refl) h

-- the files are read
pub all_read : (files : Files) (name : List ℕ) (suite : SuiteText) (names : List (List ℕ)) (classes : List ClassParts) → names ≡ suite.classes → suite_in files name ≡ Ok suite → classes_in files 0 names ≡ Ok classes → read_in files name ≡ Ok (suite, classes)
unfolding read_in
all_read files name suite names classes n s h = ap (λ r. r >>= λ t. classes_in files 0 t.classes >>= λ cs. Ok (t, cs)) s ∙ ap (λ r. r >>= λ cs. Ok (suite, cs)) (ap (classes_in files 0) (sym n) ∙ h)

pub not_checked : (files : Files) (name : List ℕ) (suite : SuiteText) (classes : List ClassParts) (e : LoadFault) → read_in files name ≡ Ok (suite, classes) → Checks suite classes (Err e) → LoadAnswers files name (Err e)
not_checked files name suite classes e r h = IfSome_then (says e) (h (sums_in files name)) (λ f k. subst (λ x. ReadGives (sums_in files name) x (Err f)) (sym r) k)

pub loads_all : (files : Files) (name : List ℕ) (suite : SuiteText) (classes : List ClassParts) (p q : Program) (names : Names) (prints : Prints) → names ≡ names_in suite q → q ≡ p → read_in files name ≡ Ok (suite, classes) →
    prints ≡ sums_in files name suite → Checks suite classes (Ok p) → LoadAnswers files name (Ok (record { checked = p; names = names; prints = prints }))
loads_all files name suite classes p q names prints e s r d h =
    let sums = sums_in files name in
    let made : Names → Prints → Loaded = λ n k. record { checked = p; names = n; prints = k } in
    let named = subst (λ n. ReadGives sums (Ok (suite, classes)) (Ok (made n (sums suite)))) (sym (e ∙ ap (names_in suite) s)) (h sums) in
    subst (λ x. ReadGives sums x (Ok (made names prints))) (sym r) (subst (λ k. ReadGives sums (Ok (suite, classes)) (Ok (made names k))) (sym d) named)

-- ---- sums

pub sums_none : (s : PrintSums) → AreMoreSums s s []
sums_none s = λ text over h. subst (λ xs. AreSums s text xs) (sym (append-nil over)) h

pub sums_more : (files : Files) (names : List (List ℕ)) (i : ℕ) (name : List ℕ) (first old new : PrintSums) → i < length names → name ≡ get_or names i name →
    AreMoreSums first old (map (bytes_of files) (take i names)) → AreMoreSums old new (bytes_of files name ∷ []) → AreMoreSums first new (map (bytes_of files) (take (i + 1) names))
sums_more files names i name first old new lt at h here =
    let front = take i names in
    let longer = ap (map (bytes_of files)) (take_more names i name lt ∙ ap (λ n. front ++ n ∷ []) (sym at)) ∙ map-append (bytes_of files) front (name ∷ []) in
    λ text over s. subst (λ xs. AreSums new text (over ++ xs)) (sym longer)
    (subst (λ xs. AreSums new text xs) (append_assoc over (map (bytes_of files) front) (bytes_of files name ∷ [])) (here text (over ++ map (bytes_of files) front) (h text over s)))

pub sums_last : (files : Files) (names : List (List ℕ)) (i : ℕ) (first new : PrintSums) → length names ≤ i → AreMoreSums first new (map (bytes_of files) (take i names)) → AreMoreSums first new (map (bytes_of files) names)
sums_last files names i first new le h = subst (λ ns. AreMoreSums first new (map (bytes_of files) ns)) (take_all i names le) h

-- all sums of a suite that is read
pub sums_all : (files : Files) (name : List ℕ) (suite : SuiteText) (names : List (List ℕ)) (old new : PrintSums) (prints : Prints) → names ≡ suite.classes → AreSums old (bytes_of files name) [] → AreMoreSums old new (map (bytes_of files) names) →
    ((text : List ℕ) (files : List (List ℕ)) → AreSums new text files → prints ≡ prints_of text files) → prints ≡ sums_in files name suite
sums_all files name suite names old new prints n h there k =
    k (bytes_of files name) (map (bytes_of files) names) (there (bytes_of files name) [] h) ∙ ap (λ ns. prints_of (bytes_of files name) (map (bytes_of files) ns)) n
