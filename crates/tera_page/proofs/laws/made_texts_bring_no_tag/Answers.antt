-- A value that is not safe is shown so.
use Rattle.tera_page.proofs.Plainly.{filter_given}
use Rattle.tera_page.proofs.laws.made_texts_bring_no_tag.Goals as goal
use Rattle.tera_page.specs.Rendering.{value}
use Rattle.tera_page.specs.Template.{in_page}
use Rattle.tera_page.specs.Values.{arguments}

pub returns : goal.returns
returns c filter e given state made shown makes is shows =
    let (v, gives) = filter_given filter e given state made is in
    c.values_bring_no_tag.ensures.piece (value in_page made) shown shows
    (c.made_texts_are_not_safe.ensures filter v (arguments state given) made makes gives)
