-- What a handle owns. An open handle owns a content on the C library's heap. A closed one owns nothing, and its pointer is null.
use Rattle.std.specs.Prelude.{Bool, true, false}
use base.Fml.{Fml, feq}
use base.Stored.{Coded}
use denote.RawPtr.{Ptr, null_ptr}
use Rattle.std.specs.Box.Ownership.{box_owns}
use Rattle.std.specs.Global.{Global}
use Rattle.std_heap.specs.contracts.GlobalAllocator.TheImpl.{ghosts}
use Rattle.nw_c.specs.declared.content.Content.{Content}
use Rattle.nw_c.specs.contracts.content.Content.{the_row}

-- the code by which ghost state stores a content
abbrev pub content_coded : Coded Content
content_coded = the_row.coded

-- the ownership of a handle with this pointer: nothing if it is closed, or a box with the content if it is open
abbrev pub holds : Global → Ptr → Bool → Content → Fml
holds alloc p false c = feq Ptr p null_ptr
holds alloc p true c = box_owns (ghosts.dealloc_token alloc) the_row p c
