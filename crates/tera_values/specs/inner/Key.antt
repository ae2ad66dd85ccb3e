-- The key that owns its text.
use Rattle.tera_meaning.specs.KeyMeaning.{KeyForm, truth_key, number_key, text_key, owned, key_text}

abbrev pub owning : KeyForm → KeyForm
owning (truth_key b) = truth_key b
owning (number_key n) = number_key n
owning (text_key t) = text_key (owned (key_text t))
