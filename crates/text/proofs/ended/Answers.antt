use Rattle.std.proofs.Common.{rules, sym}
use Rattle.std.proofs.lemmas.Iterator.{YieldsList-from_slice}
use Rattle.std.proofs.lemmas.Iterator.Search.{all_from_yields_List}
use borrow.Author.Tests.{tests}
use Rattle.meaning.specs.Text.{is_blank}
use Rattle.text.proofs.Laws.{blank_none}
use Rattle.text.proofs.ended.Goals as goal

pub returns : goal.returns
returns c =
    rw (sym (blank_none c.args.rest.now))
    (all_from_yields_List is_blank _ _ _ c.all.ensures.ran
    (YieldsList-from_slice c.args.rest.now cc)
    (λ x b q k. search (rules, tests)))
