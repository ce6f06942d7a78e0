-- Loading has exactly one answer.
use Rattle.std.proofs.Common.{◌≡◌, List, Result, Ok, Err, refl, ap, ◌∙◌}
use Rattle.class_reader.specs.declared.parts.ClassParts.{ClassParts}
use Rattle.class_link.proofs.LinkOnce.{links_once, links_by_once}
use Rattle.order_law.specs.declared.records.Prints.{Prints}
use Rattle.suite_load.specs.declared.{suite_text.SuiteText.SuiteText, load_fault.LoadFault.LoadFault, loaded.Loaded.Loaded}
use Rattle.suite_load.specs.Loading.{read_in, sums_in, lines_of, checked_of, ReadGives, LoadsOnce}

-- what the files that are read give
gives_once : (sums : SuiteText → Prints) (read : Result (SuiteText × List ClassParts) LoadFault) → (answer : Result Loaded LoadFault) × ReadGives sums read answer × ((other : Result Loaded LoadFault) → ReadGives sums read other → other ≡ answer)
gives_once sums (Err f) = (Err f, refl, λ other h. h)
gives_once sums (Ok x) =
    let linked = links_once x.1 (lines_of x.0) in (
      checked_of x.0 (sums x.0) linked.0,
      (linked.1, linked.0, linked.2, refl),
      λ other h.
          h.3 ∙ ap (checked_of x.0 (sums x.0)) (links_by_once x.1 (lines_of x.0) h.0 linked.1 h.1 linked.0 h.2 linked.2),
    )

pub loads_once : LoadsOnce
loads_once files name = gives_once (sums_in files name) (read_in files name)
