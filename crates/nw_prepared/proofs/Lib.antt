mod FirstBad
mod Members
