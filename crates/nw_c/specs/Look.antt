-- Looks at slots and rounds.
use Rattle.std.specs.Prelude.{◌≡◌, ℕ, List, length, Bool, Option, Some, None, if◌then◌else◌}
use Rattle.nw_digest.specs.declared.digest.Digest.{Digest}
use Rattle.nw_sig.specs.Signed.{Meaning}
use Rattle.nw_model.specs.Look.{AreLooks}
use Rattle.nw_model.specs.declared.look.Look.{Look}
use Rattle.nw_history.specs.Story.{state_of}
use Rattle.nw_book.specs.Answered.{IsLookAfter}
use Rattle.nw_shared_store.specs.Session.{HasSeen, IsSameSession}
use Rattle.nw_c.specs.declared.content.Content.{Content}
use Rattle.nw_c.specs.declared.content.Content.TheVariants as kind
use Rattle.nw_c.specs.declared.plain.CDigest.{CDigest}
use Rattle.nw_c.specs.declared.sessions.look.CAuthorLook.{CAuthorLook}
use Rattle.nw_c.specs.declared.sessions.look.CLook.{CLook}
use Rattle.nw_c.specs.Plain.{digest_in}

-- the digest, if its flag is set
abbrev pub digest_if : Bool → CDigest → Option Digest
digest_if has d = if has then Some (digest_in d) else None

-- the look as a value of the store
abbrev pub look_in : CLook → Look
look_in c = record { floor = c.garbage_round; newest = c.newest_round; first = digest_if c.has_first c.first; missing = c.missing; certified = digest_if c.has_certified c.certified; stands = c.stands; complete = c.complete }

-- the look and its author as values of the store
abbrev pub author_look_in : CAuthorLook → ℕ × Look
author_look_in c = (c.author, look_in c.look)

-- the look has what the state after the session's present history has in the slot of this round and author, and tells which references of
-- the next round are satisfied. From now on, the session knows of this history
abbrev pub HasLook : Meaning → ℕ → ℕ → Look → Content → Content → Type 0
HasLook accepts round author look (kind.Session old) (kind.Session new) = IsSameSession old new × HasSeen accepts old new (λ h. IsLookAfter h (round, author) look)
HasLook accepts round author look old new = ⊥

-- these are the looks at the round in the state after the session's present history. From now on, the session knows of this history
abbrev pub HasLooks : Meaning → ℕ → List (ℕ × Look) → Content → Content → Type 0
HasLooks accepts round looks (kind.Session old) (kind.Session new) = IsSameSession old new × HasSeen accepts old new (λ h. AreLooks (state_of h) round looks)
HasLooks accepts round looks old new = ⊥

-- there are this many such looks
abbrev pub HasManyLooks : Meaning → ℕ → ℕ → Content → Content → Type 0
HasManyLooks accepts round n old new = (looks : List (ℕ × Look)) × HasLooks accepts round looks old new × (n ≡ length looks)
