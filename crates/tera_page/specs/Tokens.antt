-- What the clauses of the reader's private functions cite.
use Rattle.std.specs.Prelude.{◌≡◌, ◌||◌, ◌++◌, ℕ, Bool, false, IsTrue, List, [], codes}
use Rattle.tera_page.specs.Grammar as grammar
use Rattle.tera_page.specs.Grammar.{IsRun, Marked, Shows, SpellsTag, comment_mark}
use Rattle.tera_page.specs.Grammar.{leaves_out, opens}
use Rattle.tera_page.specs.Symbols as symbol
use Rattle.tera_page.specs.Symbols.{begins_word, spelled}
use Rattle.tera_page.specs.View.{bound_of, showing_of}
use Rattle.tera_page.specs.Words.{is_name}
use Rattle.tera_page.specs.declared.symbol.Sign.{Sign}
use Rattle.tera_page.specs.declared.symbol.Sign.TheVariants as sign
use Rattle.tera_page.specs.declared.symbol.Symbol.{Symbol}
use Rattle.tera_page.specs.declared.symbol.Symbol.TheVariants.{Word, Quoted}
use Rattle.tera_page.specs.declared.symbol.Symbol.TheVariants as code
use Rattle.tera_page.specs.declared.token.Mark.{Mark}
use Rattle.tera_page.specs.declared.token.Mark.TheVariants as mark
use Rattle.tera_page.specs.declared.token.Tag.{Tag}
use Rattle.tera_page.specs.declared.token.Tag.TheVariants.{If, Elif, Else, EndIf, For, EndFor, Set}
use Rattle.tera_page.specs.declared.token.Token.{Token}
use Rattle.tera_page.specs.declared.token.Token.TheVariants as token

abbrev pub tag_of : Tag → grammar.Tag
tag_of (If test) = grammar.if_tag test.now
tag_of (Elif test) = grammar.elif_tag test.now
tag_of Else = grammar.else_tag
tag_of EndIf = grammar.endif_tag
tag_of (For bound over) = grammar.for_tag (bound_of bound) over.now
tag_of EndFor = grammar.endfor_tag
tag_of (Set name value) = grammar.set_tag name.now value.now

-- the text is the token, and then the rest
abbrev pub SpellsToken : Token → List ℕ → List ℕ → Type 0
SpellsToken (token.Run t) text rest = IsRun t.now text rest
SpellsToken (token.Comment t) text rest = Marked comment_mark t.now text rest
SpellsToken (token.Show said how) text rest = Shows said.now (showing_of how) text rest
SpellsToken (token.Tag tag) text rest = SpellsTag (tag_of tag) text rest

-- a run, behind which stands nothing
abbrev pub IsLastRun : Token → List ℕ → Type 0
IsLastRun (token.Run t) rest = rest ≡ []
IsLastRun (token.Comment t) rest = ⊥
IsLastRun (token.Show said how) rest = ⊥
IsLastRun (token.Tag tag) rest = ⊥

-- a mark is first, or blanks that one leaves out
abbrev pub begins : List ℕ → Bool
begins text = opens text || leaves_out text

abbrev pub mark_of : Mark → grammar.Mark
mark_of mark.Value = grammar.value_mark
mark_of mark.Tag = grammar.tag_mark
mark_of mark.Comment = grammar.comment_mark

-- a tag of one word is that
abbrev pub IsBareTag : grammar.Tag → List ℕ → Type 0
IsBareTag grammar.else_tag word = word ≡ codes "else"
IsBareTag grammar.endif_tag word = word ≡ codes "endif"
IsBareTag grammar.endfor_tag word = word ≡ codes "endfor"
IsBareTag _ word = ⊥

-- what stands behind `for` is that of the tag
abbrev pub IsForTag : grammar.Tag → List ℕ → Type 0
IsForTag (grammar.for_tag bound over) text =
    grammar.IsBound bound × grammar.Loops bound over text
IsForTag _ text = ⊥

-- what stands behind `set` is that of the tag
abbrev pub IsSetTag : grammar.Tag → List ℕ → Type 0
IsSetTag (grammar.set_tag name value) text =
    IsTrue (is_name name) × grammar.Assigns name value text
IsSetTag _ text = ⊥

abbrev pub sign_of : Sign → symbol.Sign
sign_of sign.Open = symbol.opens
sign_of sign.Close = symbol.closes
sign_of sign.Equal = symbol.equal
sign_of sign.Unequal = symbol.unequal
sign_of sign.Less = symbol.less
sign_of sign.AtMost = symbol.at_most
sign_of sign.More = symbol.more
sign_of sign.AtLeast = symbol.at_least
sign_of sign.Plus = symbol.plus
sign_of sign.Minus = symbol.minus
sign_of sign.Times = symbol.times
sign_of sign.Floor = symbol.floor
sign_of sign.Remainder = symbol.remainder
sign_of sign.Power = symbol.power
sign_of sign.Bar = symbol.bar
sign_of sign.Comma = symbol.comma
sign_of sign.Gives = symbol.gives
sign_of sign.And = symbol.and
sign_of sign.Or = symbol.or
sign_of sign.Not = symbol.not_
sign_of sign.In = symbol.in_
sign_of sign.Is = symbol.is
sign_of sign.True = symbol.true_
sign_of sign.False = symbol.false_
sign_of sign.None = symbol.none

abbrev pub symbol_of : Symbol → symbol.Symbol
symbol_of (Word word) = symbol.word word.now
symbol_of (Quoted text) = symbol.quoted text.now
symbol_of (code.Sign s) = symbol.sign (sign_of s)

-- the text is a sign that is no word, and then the rest
abbrev pub IsSigned : Sign → List ℕ → List ℕ → Type 0
IsSigned s text rest =
    (begins_word (spelled (sign_of s)) ≡ false) × (text ≡ spelled (sign_of s) ++ rest)
