mod Small
mod Two
