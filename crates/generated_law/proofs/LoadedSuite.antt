-- Each generated suite loads.
use Rattle.std.proofs.Common.{◌≡◌, None, Ok, sym, ap, subst}
use Rattle.suite_load.specs.Loading.{◌>>=◌, sums_in, typed_answer, loaded_of, checked_of, ReadGives}
use Rattle.generated_law.specs.GeneratedSuite.{suite_name, suite_files, said_suite, generated_program, generated_suite}
use Rattle.generated_law.specs.GeneratedLaw.{LoadLaw}
use Rattle.generated_law.proofs.{FilesRead.read_law, LinkedSuite.link_law, Typed.typed_law}

pub load_law : LoadLaw
unfolding generated_suite checked_of
load_law k few =
    let sums = sums_in (suite_files k) suite_name in
    let said = said_suite k in
    let p = generated_program k in
    let checked : checked_of said (sums said) (Ok p) ≡ Ok (loaded_of said (sums said) p) = ap (λ o. typed_answer p o >>= λ typed. Ok (loaded_of said (sums said) typed)) (typed_law k) in
    subst (λ r. ReadGives sums r (Ok (loaded_of said (sums said) p))) (sym (read_law k few)) (None, Ok p, link_law k few, sym checked)
