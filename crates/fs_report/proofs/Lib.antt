mod Text
mod JsonText
mod Lines
