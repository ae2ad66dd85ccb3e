-- Where a feed stands, and a place as it is stored.
use Rattle.std.specs.Prelude.{ℕ, Bool, List, refl}
use Rattle.std.specs.Coded.{Coded, code_by, coded×, coded_ℕ, coded_bool}
use Rattle.tera_meaning.specs.State.{State}
use Rattle.tera_meaning.specs.Stored.{coded_state, coded_text}
use Rattle.tera_replies.specs.declared.feed.Feed.{Feed}
use Rattle.tera_replies.specs.Stretch.{Place}

abbrev pub place_of : Feed → Place
place_of feed =
    record {
      number = feed.number;
      part = feed.part.items;
      state = feed.context;
      wanted = feed.wanted_memory;
    }

-- a place is stored as its fields
abbrev pub coded_place : Coded Place
coded_place =
    code_by (ℕ × (List ℕ × (State × Bool)))
    (coded× coded_ℕ (coded× coded_text (coded× coded_state coded_bool)))
    (λ p. (p.number, (p.part, (p.state, p.wanted))))
    (λ q. record { number = q.0; part = q.1.0; state = q.1.1.0; wanted = q.1.1.1 })
    (λ _. refl)
