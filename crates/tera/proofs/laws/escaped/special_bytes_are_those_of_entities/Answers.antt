-- By the lemmas on tokens.
use Rattle.tera.proofs.SpellingLaws.{special_begin_entities, special_is_ampersand}
use Rattle.tera.proofs.laws.escaped.special_bytes_are_those_of_entities.Goals as goal

pub returns-clause-special : goal.returns-clause-special
returns-clause-special c = special_is_ampersand

pub returns-clause-entities : goal.returns-clause-entities
returns-clause-entities c = special_begin_entities
