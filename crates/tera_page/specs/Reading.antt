-- What the clauses of the reader cite.
use Rattle.std.specs.Prelude.{◌≡◌, ◌⊎◌, ⊤, ℕ, List, [], codes, Option, None, Some}
use Rattle.tera.specs.Errors.{IsOutOfMemory, States}
use Rattle.tera.specs.Refusal.{syntax_error}
use Rattle.tera.specs.Report.{Report}
use Rattle.tera.specs.types.Error.{Error}
use Rattle.tera_page.specs.Expressions.{Writes}
use Rattle.tera_page.specs.Grammar as grammar
use Rattle.tera_page.specs.Grammar.{SpellsUpTo, SpellsElse, SpellsEnd, SpellsPart, SpellsTag}
use Rattle.tera_page.specs.Places.{EndsWith, IsReportAt}
use Rattle.tera_page.specs.Template as tree
use Rattle.tera_page.specs.Template.{Bound, Parts, Written}
use Rattle.tera_page.specs.Tokens.{tag_of}
use Rattle.tera_page.specs.View.{part_of, parts_of}
use Rattle.tera_page.specs.declared.fault.Fault.{Fault}
use Rattle.tera_page.specs.declared.fault.Fault.TheVariants.{Memory, Bad, Deep, Long, Unnamed}
use Rattle.tera_page.specs.declared.syntax.End.{End}
use Rattle.tera_page.specs.declared.syntax.End.TheVariants.{If, For}
use Rattle.tera_page.specs.declared.syntax.Section.{Section}
use Rattle.tera_page.specs.declared.syntax.Step.{Step}
use Rattle.tera_page.specs.declared.syntax.Step.TheVariants as step
use Rattle.tera_page.specs.declared.token.Tag.{Tag}
use Rattle.tera_page.specs.declared.tree.Node.{Node}

-- the error is a report of the message, at the rest of the source of that file; or want of memory
abbrev pub ShowsAt : List ℕ → List ℕ → List ℕ → List ℕ → Error → Type 0
ShowsAt message file source rest e =
    IsOutOfMemory e ⊎ ((report : Report) × IsReportAt message file source rest report
    × States (syntax_error report) None e)

-- the same at some place in the source
abbrev pub ShowsIn : List ℕ → List ℕ → List ℕ → Error → Type 0
ShowsIn message file source e =
    (rest : List ℕ) × EndsWith source rest × ShowsAt message file source rest e

-- the messages of what is no template
abbrev pub not_read : List ℕ
not_read = codes "This is not read"

abbrev pub too_deep : List ℕ
too_deep = codes "More than 64 levels"

abbrev pub too_long : List ℕ
too_long = codes "More than 128 words and signs"

abbrev pub no_filter : List ℕ
no_filter = codes "There is no such filter"

-- what no template is refused with, at its place in this source
abbrev pub IsSyntaxError : List ℕ → List ℕ → Error → Type 0
IsSyntaxError file source e =
    ShowsIn not_read file source e ⊎ (ShowsIn too_deep file source e
    ⊎ (ShowsIn too_long file source e ⊎ ShowsIn no_filter file source e))

-- the message that each fault shows, and where, or want of memory
abbrev pub Tells : Fault → List ℕ → List ℕ → Error → Type 0
Tells Memory file source e = IsOutOfMemory e
Tells (Bad at) file source e = ShowsAt not_read file source at.now e
Tells (Deep at) file source e = ShowsAt too_deep file source at.now e
Tells (Long at) file source e = ShowsAt too_long file source at.now e
Tells (Unnamed at) file source e = ShowsAt no_filter file source at.now e

-- a fault is one of this text, which ends with what follows there
abbrev pub IsFaultOf : List ℕ → Fault → Type 0
IsFaultOf text Memory = ⊤
IsFaultOf text (Bad at) = EndsWith text at.now
IsFaultOf text (Deep at) = EndsWith text at.now
IsFaultOf text (Long at) = EndsWith text at.now
IsFaultOf text (Unnamed at) = EndsWith text at.now

-- parts end with the text, or at a tag, behind which is the rest
abbrev pub StopsAt : Option Tag → List ℕ → List ℕ → Type 0
StopsAt None left rest = left ≡ []
StopsAt (Some tag) left rest = SpellsTag (tag_of tag) left rest

abbrev pub IsSection : Section → List ℕ → Type 0
IsSection read text =
    SpellsUpTo (parts_of read.nodes.items) text read.at.now
    × StopsAt read.stop read.at.now read.rest.now

abbrev pub IsStep : Step → List ℕ → Type 0
IsStep (step.Node node rest) text = SpellsPart (part_of node) text rest.now
IsStep (step.Stop tag rest) text = SpellsTag (tag_of tag) text rest.now

-- what stands behind it
abbrev pub rest_of : Step → List ℕ
rest_of (step.Node node rest) = rest.now
rest_of (step.Stop tag rest) = rest.now

-- a part, behind which stands nothing
abbrev pub IsLastStep : Step → Type 0
IsLastStep (step.Node node rest) = rest.now ≡ []
IsLastStep (step.Stop tag rest) = ⊥

-- the node is what its tag begins, of that text from the tag on, and then comes the rest
abbrev pub IsChoice : List ℕ → List ℕ → Node → List ℕ → List ℕ → Type 0
IsChoice said from node text rest =
    (test : Written) × (chosen otherwise : Parts) × (tail : List ℕ) × Writes test said from
    × (part_of node ≡ tree.choice test chosen otherwise) × SpellsUpTo chosen text tail
    × SpellsElse otherwise tail rest

abbrev pub IsLoop : Bound → List ℕ → List ℕ → Node → List ℕ → List ℕ → Type 0
IsLoop bound said from node text rest =
    (over : Written) × (repeated otherwise : Parts) × (tail : List ℕ) × Writes over said from
    × (part_of node ≡ tree.loop bound over repeated otherwise) × SpellsUpTo repeated text tail
    × SpellsEnd grammar.endfor_tag otherwise tail rest

abbrev pub end_tag : End → grammar.Tag
end_tag If = grammar.endif_tag
end_tag For = grammar.endfor_tag
