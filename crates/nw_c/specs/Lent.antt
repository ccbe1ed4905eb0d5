-- Handles whose content is lent.
use base.Fml.{Fml}
use denote.Ref.{MutBor}
use denote.Follow.{follows}
use Rattle.nw_c.specs.declared.content.Content.{Content}
use Rattle.nw_c.specs.contracts.content.Content.{the_row as content-row}
use Rattle.nw_c.specs.declared.handle.Handle.{Handle}
use Rattle.nw_c.specs.contracts.handle.Handle.{the_row}

-- the handle with the content c
abbrev pub with_value : Handle → Content → Handle
with_value h c = record { at = h.at; alloc = h.alloc; held = h.held; value = c }

-- after the borrow r ends, the handle borrowed by h has the content last written through r
abbrev pub handle_follows : MutBor Handle → MutBor Content → Fml
handle_follows h r = follows the_row content-row h.ghost_name r.ghost_name (with_value h.now)
