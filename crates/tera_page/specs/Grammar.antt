-- Which bytes spell a template.
use Rattle.std.specs.Prelude.{◌≡◌, ◌≢◌, ◌⊎◌, ⊤, ◌||◌, ◌==◌, ◌&&◌, ◌<◌, ◌-◌, ℕ, Bool, true, false}
use Rattle.std.specs.Prelude.{IsTrue, List, [], ◌∷◌, ◌++◌, drop, length, slice_index, codes}
use Rattle.tera_filters.specs.Parts.{NotBefore}
use Rattle.tera_page.specs.Expressions.{Writes}
use Rattle.tera_page.specs.Template as tree
use Rattle.tera_page.specs.Template.{Bound, Showing, Part, Parts, Written, in_page, as_printed}
use Rattle.tera_page.specs.Template.{item, pair}
use Rattle.tera_page.specs.Words.{AreBlanks, IsNext, Words, is_blank, is_name}

-- ---- marks

pub data Mark : Type 0 where
  value_mark : Mark
  tag_mark : Mark
  comment_mark : Mark

abbrev pub opening : Mark → List ℕ
opening value_mark = codes "{{"
opening tag_mark = codes "{%"
opening comment_mark = codes "{#"

abbrev pub closing : Mark → List ℕ
closing value_mark = codes "}}"
closing tag_mark = codes "%}"
closing comment_mark = codes "#}"

-- whether a value, a tag or a comment begins there
abbrev pub opens : List ℕ → Bool
opens [] = false
opens (b ∷ []) = false
opens (b ∷ c ∷ bytes) = b == 123 && (c == 123 || (c == 37 || c == 35))

-- whether one begins there, and with a `-`
abbrev pub opens_dashed : List ℕ → Bool
opens_dashed [] = false
opens_dashed (b ∷ []) = false
opens_dashed (b ∷ c ∷ []) = false
opens_dashed (b ∷ c ∷ d ∷ bytes) = opens (b ∷ c ∷ []) && d == 45

-- whether blanks there are left out: behind them, if there are any, one begins with a `-`
abbrev pub leaves_out : List ℕ → Bool
leaves_out [] = false
leaves_out (b ∷ bytes) = opens_dashed (b ∷ bytes) || (is_blank b && leaves_out bytes)

-- none begins at the first places
abbrev pub NoneOpens : ℕ → List ℕ → Type 0
NoneOpens n text = (i : ℕ) → i < n → opens (drop i text) ≡ false

-- none begins anywhere
abbrev pub IsPlain : List ℕ → Type 0
IsPlain text = NoneOpens (length text) text

-- the last byte is no blank
abbrev pub EndsSolid : List ℕ → Type 0
EndsSolid bytes = 0 < length bytes → is_blank (slice_index bytes (length bytes - 1)) ≡ false

-- the text is a run, and then the rest: nothing begins in it, and no blank at its end is left out
abbrev pub IsRun : List ℕ → List ℕ → List ℕ → Type 0
IsRun run text rest =
    (text ≡ run ++ rest) × NoneOpens (length run) text × (leaves_out rest ≡ true → EndsSolid run)

-- whether a `-` is first, and what stands behind it, or all
abbrev pub DashFirst : Bool → List ℕ → List ℕ → Type 0
DashFirst true bytes left = bytes ≡ codes "-" ++ left
DashFirst false bytes left = (bytes ≡ left) × ((more : List ℕ) → bytes ≢ codes "-" ++ more)

-- whether a `-` is last, and what stands before it, or all
abbrev pub DashLast : Bool → List ℕ → List ℕ → Type 0
DashLast true bytes left = bytes ≡ left ++ codes "-"
DashLast false bytes left = (bytes ≡ left) × ((more : List ℕ) → bytes ≢ more ++ codes "-")

-- blanks, of which there are none where none are left out
abbrev pub LeftOut : Bool → List ℕ → Type 0
LeftOut true blanks = AreBlanks blanks
LeftOut false blanks = blanks ≡ []

abbrev pub begins_blank : List ℕ → Bool
begins_blank [] = false
begins_blank (b ∷ bytes) = is_blank b

-- the text is two marks and what is said between them, and then the rest. The first closing mark
-- ends it. A `-` inside of a mark leaves out all blanks outside of it
pub record Marked (mark : Mark) (said text rest : List ℕ) : Type 0 where
  pub before : List ℕ
  pub inner : List ℕ
  pub ahead : List ℕ
  pub after : List ℕ
  pub trims_before : Bool
  pub trims_after : Bool
  pub whole : text ≡ before ++ (opening mark ++ (inner ++ (closing mark ++ (after ++ rest))))
  pub first : NotBefore (closing mark) (length inner) (inner ++ (closing mark ++ (after ++ rest)))
  pub left : DashFirst trims_before inner ahead
  pub right : DashLast trims_after ahead said
  pub out_before : LeftOut trims_before before
  pub out_after : LeftOut trims_after after
  pub all_after : trims_after ≡ true → begins_blank rest ≡ false

-- ---- tags

-- what a tag says: the text of an expression is told as it stands behind its word
pub data Tag : Type 0 where
  if_tag : List ℕ → Tag
  elif_tag : List ℕ → Tag
  else_tag : Tag
  endif_tag : Tag
  for_tag : Bound → List ℕ → Tag
  endfor_tag : Tag
  set_tag : List ℕ → List ℕ → Tag

-- behind blanks stands what is bound, and then the rest; a comma, maybe in blanks, parts two names
abbrev pub Binds : Bound → List ℕ → List ℕ → Type 0
Binds (item name) text rest = IsNext text name rest
Binds (pair key value) text rest =
    (left right : List ℕ) × (text ≡ left ++ (codes "," ++ right)) × Words (key ∷ []) left
    × IsNext right value rest

-- the text is a word, and behind it what is said more
abbrev pub Begins : List ℕ → (List ℕ → Type 0) → List ℕ → Type 0
Begins word More text = (rest : List ℕ) × IsNext text word rest × More rest

-- what stands behind the first word of a loop: what is bound, `in`, and an expression
abbrev pub Loops : Bound → List ℕ → List ℕ → Type 0
Loops bound over text = (rest : List ℕ) × Binds bound text rest × IsNext rest (codes "in") over

-- what stands behind the first word where a name is set: the name, `=`, and an expression
abbrev pub Assigns : List ℕ → List ℕ → List ℕ → Type 0
Assigns name value text =
    (left : List ℕ) × Words (name ∷ []) left × (text ≡ left ++ (codes "=" ++ value))

-- what a tag says between its marks
abbrev pub Says : Tag → List ℕ → Type 0
Says (if_tag test) said = IsNext said (codes "if") test
Says (elif_tag test) said = IsNext said (codes "elif") test
Says else_tag said = Words (codes "else" ∷ []) said
Says endif_tag said = Words (codes "endif" ∷ []) said
Says (for_tag bound over) said = Begins (codes "for") (Loops bound over) said
Says endfor_tag said = Words (codes "endfor" ∷ []) said
Says (set_tag name value) said = Begins (codes "set") (Assigns name value) said

abbrev pub IsBound : Bound → Type 0
IsBound (item name) = IsTrue (is_name name)
IsBound (pair key value) = IsTrue (is_name key) × IsTrue (is_name value)

abbrev pub IsProper : Tag → Type 0
IsProper (for_tag bound over) = IsBound bound
IsProper (set_tag name value) = IsTrue (is_name name)
IsProper _ = ⊤

abbrev pub InTag : Tag → List ℕ → Type 0
InTag tag said = IsProper tag × Says tag said

-- the text is a tag, and then the rest
abbrev pub SpellsTag : Tag → List ℕ → List ℕ → Type 0
SpellsTag tag text rest = (said : List ℕ) × InTag tag said × Marked tag_mark said text rest

-- `escape` asks for what is done without a filter, and so nothing is escaped twice
abbrev pub filter_of : Showing → List ℕ
filter_of in_page = codes "escape"
filter_of as_printed = codes "safe"

-- what is said is an expression's text, and maybe a filter behind `|`
abbrev pub Filtered : List ℕ → Showing → List ℕ → Type 0
Filtered said how whole =
    ((how ≡ in_page) × (whole ≡ said))
    ⊎ ((right : List ℕ) × Words (filter_of how ∷ []) right × (whole ≡ said ++ (codes "|" ++ right)))

-- the text shows an expression of that text so, and then the rest
abbrev pub Shows : List ℕ → Showing → List ℕ → List ℕ → Type 0
Shows said how text rest =
    (whole : List ℕ) × Filtered said how whole × Marked value_mark whole text rest

-- ---- templates

-- a text is parts, and then the rest
mutual
  pub data SpellsUpTo : Parts → List ℕ → List ℕ → Type 0 where
    nothing : (text rest : List ℕ) → text ≡ rest → SpellsUpTo tree.no_parts text rest
    one_more : (p : Part) (ps : Parts) (text next rest : List ℕ) → SpellsPart p text next
        → SpellsUpTo ps next rest → SpellsUpTo (tree.part p ps) text rest

  pub data SpellsPart : Part → List ℕ → List ℕ → Type 0 where
    text : (run whole rest : List ℕ) → IsRun run whole rest
        → SpellsPart (tree.text run) whole rest
    comment : (said whole rest : List ℕ) → Marked comment_mark said whole rest
        → SpellsPart (tree.comment said) whole rest
    show : (w : Written) (how : Showing) (said whole rest : List ℕ) → Writes w said whole
        → Shows said how whole rest → SpellsPart (tree.show w how) whole rest
    assign : (name : List ℕ) (value : Written) (said whole rest : List ℕ)
        → Writes value said whole → SpellsTag (set_tag name said) whole rest
        → SpellsPart (tree.assign name value) whole rest
    choice : (test : Written) (chosen otherwise : Parts) (said whole body tail rest : List ℕ)
        → Writes test said whole → SpellsTag (if_tag said) whole body
        → SpellsUpTo chosen body tail → SpellsElse otherwise tail rest
        → SpellsPart (tree.choice test chosen otherwise) whole rest
    loop : (bound : Bound) (over : Written) (repeated otherwise : Parts)
        (said whole body tail rest : List ℕ) → Writes over said whole
        → SpellsTag (for_tag bound said) whole body → SpellsUpTo repeated body tail
        → SpellsEnd endfor_tag otherwise tail rest
        → SpellsPart (tree.loop bound over repeated otherwise) whole rest

  -- the end of what is opened, maybe behind what is taken otherwise
  pub data SpellsEnd : Tag → Parts → List ℕ → List ℕ → Type 0 where
    ended : (end : Tag) (text rest : List ℕ) → SpellsTag end text rest
        → SpellsEnd end tree.no_parts text rest
    otherwise : (end : Tag) (ps : Parts) (text body tail rest : List ℕ)
        → SpellsTag else_tag text body → SpellsUpTo ps body tail → SpellsTag end tail rest
        → SpellsEnd end ps text rest

  -- the end of a choice; `elif` begins one more, where the first is not taken
  pub data SpellsElse : Parts → List ℕ → List ℕ → Type 0 where
    last : (ps : Parts) (text rest : List ℕ) → SpellsEnd endif_tag ps text rest
        → SpellsElse ps text rest
    elif : (test : Written) (chosen others : Parts) (said text body tail rest : List ℕ)
        → Writes test said text → SpellsTag (elif_tag said) text body
        → SpellsUpTo chosen body tail → SpellsElse others tail rest
        → SpellsElse (tree.part (tree.choice test chosen others) tree.no_parts) text rest

-- the text is these parts
abbrev pub Spells : Parts → List ℕ → Type 0
Spells ps whole = SpellsUpTo ps whole []
