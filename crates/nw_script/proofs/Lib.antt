mod Elements
mod Numbers
