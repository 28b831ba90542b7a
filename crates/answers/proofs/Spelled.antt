-- One list of words: each sign and each keyword that the lexer knows is the grammar's word of that text.
use mathlib.Core.Path.{◌≡◌, refl}
use Rattle.chars.specs.Texts.{bytes, same}
use Rattle.tokens.specs.Words.{two_signs, one_signs, page, words_of, keywords, word_in, name_word}
use Rattle.grammar.specs.Words.{underscore, name}
use Rattle.answers.specs.Spelled.{spelled_two, spelled_one, spelled_words}

pub two_signs_lem : two_signs ≡ spelled_two
unfolding bytes two_signs spelled_two
two_signs_lem = refl

pub one_signs_lem : one_signs ≡ spelled_one
unfolding bytes one_signs spelled_one
one_signs_lem = refl

pub all_words : keywords ≡ spelled_words
unfolding bytes page words_of keywords spelled_words
all_words = refl

-- `_`, and a name
pub the_names : (name_word (bytes "_") ≡ underscore) × (name_word (bytes "a") ≡ name)
unfolding bytes same page words_of keywords word_in name_word
the_names = (refl, refl)
